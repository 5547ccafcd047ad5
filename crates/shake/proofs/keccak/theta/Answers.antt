-- `shake::keccak::theta` meets its contract. Assumes nothing.
use Rattle.std.proofs.Common.{◌≡◌, ℕ, ◌+◌, List, [], ◌∷◌, get_or, refl, ap}
use Rattle.octets.specs.Xor.{◌⊕◌}
use Rattle.octets.specs.Lists.{tab}
use Rattle.shake.specs.Keccak.{rot, state, lane, column, theta}
use Rattle.shake.proofs.keccak.theta.Goals as goal

-- θ, where the turned columns are known
with_turned : List ℕ → List ℕ → List ℕ
with_turned a r = state (λ x y. lane a x y ⊕ (column a (x + 4) ⊕ get_or r x 0))

pub returns : goal.returns
unfolding ◌⊕◌ tab rot column theta with_turned
returns c =
    let a = c.args.a in
    let e : c.rotate_left.result ∷ c.rotate_left-2.result ∷ c.rotate_left-3.result ∷ c.rotate_left-4.result ∷ c.rotate_left-5.result ∷ []
    ≡ tab 5 (λ x. rot 1 (column a (x + 1))) =
    rw (c.rotate_left.ensures, c.rotate_left-2.ensures, c.rotate_left-3.ensures, c.rotate_left-4.ensures, c.rotate_left-5.ensures) refl
    in
    ap (with_turned a) e
