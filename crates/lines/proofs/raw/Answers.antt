-- `lines::raw` meets its contract. Assumes nothing.
use Rattle.std.proofs.Common.{◌≡◌, ℕ, ◌<◌, true, false, eqb, Option, Some, unwrap_or, List, sym, ap, ◌∙◌, arith}
use Rattle.std.proofs.lemmas.List.{get_or-replicate}
use Rattle.std.specs.Option.{option_eq}
use Rattle.octets.specs.Lists.{vec}
use Rattle.folding.proofs.Folds.{hide-same, hide-other}
use Rattle.lines.specs.Standing.{tape_by, leaf_at}
use Rattle.lines.proofs.raw.Goals as goal

-- the test for the hidden leaf, with 256 for none
hidden-same : (hidden : Option ℕ) (i : ℕ) → option_eq eqb hidden (Some i) ≡ true → i ≡ unwrap_or hidden 256
hidden-same hidden i e = grind arith

hidden-other : (hidden : Option ℕ) (i : ℕ) → option_eq eqb hidden (Some i) ≡ false → i < 256 → i ≡ unwrap_or hidden 256 → ⊥
hidden-other hidden i e h = grind arith

pub returns-then-eq : goal.returns-then-eq
returns-then-eq c =
    let a = c.args in
    let e = hidden-same a.hidden a.i (sym c.eq.ensures ∙ c.if-eq.true) in
    λ b h. get_or-replicate 56 b 0 0 h ∙ sym (hide-same _ (λ k. vec (tape_by a.tree.now.keys.now (leaf_at a.leaves.now k))) a.i b e)

pub returns : goal.returns
unfolding leaf_at
returns c =
    let a = c.args in
    λ b h. ap (λ (l : List ℕ). vec l b) (c.tape.ensures ∙ ap (tape_by a.tree.now.keys.now) c.load-s.ensures)
    ∙ sym (hide-other _ _ _ b (hidden-other a.hidden a.i (sym c.eq.ensures ∙ c.if-eq.false) (omega arith)))
