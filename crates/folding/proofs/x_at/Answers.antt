-- `folding::x_at` meets its contract. Assumes nothing.
use Rattle.std.proofs.Common.{◌≡◌, List, ℕ, ap, ◌∙◌, bit_xor, rules}
use Rattle.octets.specs.Xor.{◌⊕◌}
use Rattle.octets.proofs.Xor.{xor-is-⊕}
use Rattle.octets.proofs.Tab.{from_fn-tab}
use Rattle.field.specs.Gf.{◌⊗◌}
use Rattle.field.specs.Vec.{lifted}
use Rattle.folding.specs.Rows.{x_fold, x_at}
use Rattle.folding.proofs.x_at.Goals as goal

pub returns : goal.returns
unfolding x_at
returns c =
    let s = c.args in
    let d = c.corrected-c.result in
    from_fn-tab _ _ (x_at s.f.now s.d.now s.r)
    (λ i y q k.
    let e : y ≡ bit_xor (lifted d i ⊗ s.r) (x_fold s.f.now i) = search rules in
    (search rules, e ∙ xor-is-⊕ _ _ ∙ ap (λ (l : List ℕ). (lifted l i ⊗ s.r) ⊕ x_fold s.f.now i) c.corrected-c.ensures))
    _ 56 c.from_fn.ensures.items
