-- `keygen::make_keys` meets its contract. Assumes nothing.
use mathlib.Core.Path.{ap, ap₂, ◌∙◌}
use mathlib.Core.List.{List, ◌++◌}
use Prim.Native.Nat.{ℕ}
use lib.ListN.{length}
use lib.Seq.{take_at}
use Rattle.octets.specs.Lists.{part}
use Rattle.seeds.proofs.Keys.{length-plain_keys}
use Rattle.paper.specs.Keys.{values_at, key_gen}
use borrow.Author.Rules.{rules}
use Rattle.keygen.proofs.make_keys.Goals as goal

pub new-requires : goal.new-requires
new-requires c =
    let e = c.plain_keys.ensures in
    take_at _ _ 18304 (ap length e ∙ length-plain_keys) ∙ e

pub returns-clause-public : goal.returns-clause-public
unfolding key_gen
returns-clause-public c =
    let d = c.draw-k.ensures in
    let p = c.put_public.ensures ∙ ap (λ (k : List ℕ). part 28 32 k ++ values_at (part 28 32 k) (part 0 28 k)) d in
    p

pub returns-clause-secret : goal.returns-clause-secret
unfolding key_gen
returns-clause-secret c =
    let d = c.draw-k.ensures in
    let p = c.put_public.ensures ∙ ap (λ (k : List ℕ). part 28 32 k ++ values_at (part 28 32 k) (part 0 28 k)) d in
    c.put_secret.ensures ∙ ap₂ (λ (q k : List ℕ). q ++ part 0 28 k) p d
