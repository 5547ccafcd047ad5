-- `folding::u_at` meets its contract. Assumes nothing.
use Rattle.std.proofs.Common.{◌≡◌, ◌+◌, ◌∙◌, bit_xor, rules}
use Rattle.octets.specs.Lists.{vec}
use Rattle.octets.proofs.Xor.{xor-is-⊕}
use Rattle.octets.proofs.Tab.{from_fn-tab}
use Rattle.field.specs.Gf.{◌⊗◌}
use Rattle.folding.specs.Rows.{u_fold, u_at}
use Rattle.folding.proofs.u_at.Goals as goal

pub returns : goal.returns
unfolding u_at
returns c =
    let s = c.args in
    from_fn-tab _ _ (u_at s.f.now s.r)
    (λ i y q k. let e : y ≡ bit_xor (vec s.f.now (28 + i) ⊗ s.r) (u_fold s.f.now i) = search rules in (search rules, e ∙ xor-is-⊕ _ _))
    _ 28 c.from_fn.ensures.items
