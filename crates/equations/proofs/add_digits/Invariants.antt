-- `equations::add_digits` meets its contract: before digit b the parts of the digits below it are added. Assumes nothing.
use Rattle.std.proofs.Common.{◌≡◌, ℕ, length}
use Rattle.octets.specs.Xor.{◌⊕◌}
use Rattle.octets.specs.Lists.{vec, view}
use Rattle.equations.specs.Put.{Put}
use Rattle.equations.proofs.Rows.{sofar}
use Rattle.equations.proofs.Products.{powers, digit_part}
use Rattle.equations.proofs.add_digits.Given as goal

abbrev pub invariant-loop-b : goal.invariant-loop-b
invariant-loop-b t here =
    (length here.sum ≡ 24)
    × (here.x ≡ powers here.initial.x here.b)
    × ((f : ℕ → ℕ → ℕ → ℕ → ℕ) → ((x x17 y y17 r : ℕ) → goal.F-post t here.part x x17 y y17 r → r ≡ f x x17 y y17)
    → here.sum ≡ sofar 24 (vec here.initial.z) (digit_part f here.m here.k here.initial.x here.initial.z) here.b)

abbrev pub invariant-loop-l : goal.invariant-loop-l
invariant-loop-l t here =
    (length here.sum ≡ 24)
    × ((f : ℕ → ℕ → ℕ → ℕ → ℕ) → ((x x17 y y17 r : ℕ) → goal.F-post t here.part x x17 y y17 r → r ≡ f x x17 y y17)
    → Put here.initial.sum here.l (λ i. i) (λ l. vec here.initial.sum l ⊕ f (vec here.x l) (vec here.x 17) (view here.m here.p l) (view here.m here.p 17)) here.sum)
