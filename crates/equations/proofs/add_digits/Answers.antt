-- `equations::add_digits` meets its contract: before digit b the parts of the digits below it are added. Assumes nothing.
use mathlib.Core.Path.{refl, sym, ap}
use native.Mathlib.Omega.{arith}
use borrow.Author.Rules.{rules}
use lib.ListN.{length-set}
use Rattle.octets.specs.Xor.{◌⊕◌}
use Rattle.octets.specs.Lists.{vec}
use Rattle.equations.proofs.Put.{put-start, put-add, put_all}
use Rattle.equations.proofs.Rows.{sofar-start}
use Rattle.equations.proofs.Products.{powers-start, powers-turn, digits-turn, digits-end}
use Rattle.equations.proofs.add_digits.Goals as goal

pub loop-b-init : goal.loop-b-init
loop-b-init t c = (search rules, powers-start _ (search rules), λ f h. sofar-start 24 _ _ _ (search rules) (λ l hl. refl))

pub loop-l-init : goal.loop-l-init
loop-l-init t c = (c.loop-b.invariant.0, λ f h. put-start _ _ _)

pub loop-l-preserved : goal.loop-l-preserved
loop-l-preserved t c =
    let l = c.loop-l in (
      simp length-set l.invariant.0,
      λ f h.
          put-add _ _ _ l.l l.sum (l.invariant.1 f h) (λ k hk e. omega arith) _ (omega arith)
          (ap (vec c.loop-b.sum l.l ⊕◌) (sym (h _ _ _ _ _ c.part.ensures))),
    )

pub loop-b-preserved : goal.loop-b-preserved
loop-b-preserved t c =
    let b = c.loop-b in
    let l = c.loop-l in
    let s = c.args in (
      l.invariant.0,
      powers-turn s.t b.x c.root.new.x b.b b.invariant.1 c.root.ensures,
      λ f h.
          digits-turn f s.m.now s.k s.t s.z.now b.x b.sum _ b.b _ refl b.invariant.1 (b.invariant.2 f h)
          (put_all b.sum 24 l.l _ l.sum l.invariant.0 (omega arith) (l.invariant.1 f h)),
    )

pub returns : goal.returns
returns t c =
    let b = c.loop-b in
    let s = c.args in
    λ f h. digits-end f s.m.now s.k s.t s.z.now b.sum b.b (omega arith) (b.invariant.2 f h)
