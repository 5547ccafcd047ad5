-- Packing: two equations over F as one over K, for a basis β, γ of K over F (document 001, section 2.1.2, "Packing", with μ = 2).
-- Keys are made packed, and no byte depends on a basis. Definitions only.
use Rattle.std.specs.Prelude.{◌≡◌, ℕ, ◌<◌}
use Rattle.octets.specs.Xor.{◌⊕◌}
use Rattle.field.specs.Gf.{◌⊗◌, fmul, lift}
use Rattle.algebra.specs.Line.{Equation, form_of}

-- φ: two elements of F as one of K
abbrev pub pack : ℕ → ℕ → ℕ → ℕ → ℕ
pack β γ a b = (lift a ⊗ β) ⊕ (lift b ⊗ γ)

-- two equations over F as one over K, coefficient by coefficient
abbrev pub packed : ℕ → ℕ → Equation → Equation → Equation
packed β γ e f = record { A = λ j k. pack β γ (e.A j k) (f.A j k); b = λ k. pack β γ (e.b k) (f.b k); y = pack β γ e.y f.y }

-- x solves e over F
abbrev pub SolvesF : ℕ → Equation → (ℕ → ℕ) → Type 0
SolvesF n e x = form_of fmul n e x ≡ e.y

-- β and γ are independent over F
abbrev pub Independent : ℕ → ℕ → Type 0
Independent β γ = (a b : ℕ) → a < 16 → b < 16 → pack β γ a b ≡ 0 → (a ≡ 0) × (b ≡ 0)

-- and every element of K is its two coordinates, packed
pub record Basis (β γ : ℕ) : Type 0 where
  pub independent : Independent β γ
  pub first : ℕ → ℕ
  pub second : ℕ → ℕ
  pub first-lt : (a : ℕ) → first a < 16
  pub second_lt : (a : ℕ) → second a < 16
  pub spans : (a : ℕ) → a < 256 → pack β γ (first a) (second a) ≡ a

-- an equation over K, and one of the two that it packs: p gives a coordinate
pub record OverK (e : Equation) : Type 0 where
  pub A-lt : (j k : ℕ) → e.A j k < 256
  pub b_lt : (k : ℕ) → e.b k < 256
  pub y-lt : e.y < 256

abbrev pub part_of : (ℕ → ℕ) → Equation → Equation
part_of p e = record { A = λ j k. p (e.A j k); b = λ k. p (e.b k); y = p e.y }
