-- Lane-by-lane products by the digits of one factor: the loop of `add_digits`. Assumes nothing.
use mathlib.Core.Path.{◌≡◌, refl, sym, ap, ap₂, ◌∙◌}
use mathlib.Core.List.{List}
use Prim.Native.Nat.{ℕ, ◌+◌, ◌*◌, ◌<◌}
use native.Mathlib.Omega.{arith}
use lib.Bits.{bit_and}
use lib.ListN.{length}
use Rattle.octets.specs.Xor.{◌⊕◌}
use Rattle.octets.specs.Lists.{vec, view, tab}
use Rattle.octets.proofs.Tab.{is-tab, tab-ext, vec-tab}
use Rattle.field.specs.Gf.{◌⊗◌, times_root}
use Rattle.field.proofs.Sum.{sum-⊕}
use Rattle.equations.specs.Lanes.{Masks, times_power, by_digits}
use Rattle.equations.proofs.Digits.{power_zero, power-suc, masked-product}
use Rattle.equations.proofs.Rows.{sofar, sofar-turn, sofar-end}

-- ξ^b t, on all lanes
unfoldable pub powers : List ℕ → ℕ → List ℕ
powers t b = tab 24 (λ l. times_power b (vec t l))

pub powers-start : (t : List ℕ) → length t ≡ 24 → t ≡ powers t 0
unfolding powers
powers-start t e = is-tab 24 _ t e (λ l h. sym (power_zero (vec t l)))

vec-powers : (t x : List ℕ) (b l : ℕ) → x ≡ powers t b → l < 24 → vec x l ≡ times_power b (vec t l)
unfolding powers
vec-powers t x b l e h = ap (λ (s : List ℕ). vec s l) e ∙ vec-tab 24 (λ l. times_power b (vec t l)) l h

pub powers-turn : (t x y : List ℕ) (b : ℕ) → x ≡ powers t b → y ≡ tab 24 (λ l. times_root 7 0x1b (vec x l)) → y ≡ powers t (b + 1)
unfolding powers
powers-turn t x y b e q =
    q ∙ tab-ext 24 _ _ (λ l h. ap (times_root 7 0x1b) (vec-powers t x b l e h) ∙ power-suc b (vec t l))

module _ (f : ℕ → ℕ → ℕ → ℕ → ℕ) (m : List ℕ) (k : ℕ) (t z : List ℕ) where
  -- digit b's part
  unfoldable pub digit_part : ℕ → ℕ → ℕ
  digit_part b l = f (times_power b (vec t l)) (times_power b (vec t 17)) (view m (192 * k) (24 * b + l)) (view m (192 * k) (24 * b + 17))

  pub digits-turn : (x r s : List ℕ) (b p : ℕ) → p ≡ 192 * k + 24 * b → x ≡ powers t b → r ≡ sofar 24 (vec z) digit_part b
      → s ≡ tab 24 (λ l. vec r l ⊕ f (vec x l) (vec x 17) (view m p l) (view m p 17)) → s ≡ sofar 24 (vec z) digit_part (b + 1)
  unfolding digit_part
  digits-turn x r s b p at e h q = q ∙ sofar-turn 24 (vec z) digit_part r _ b h one
    where
      mask : (l : ℕ) → view m p l ≡ view m (192 * k) (24 * b + l)
      mask l = ap (vec m) (omega arith)

      one : (l : ℕ) → l < 24 → f (vec x l) (vec x 17) (view m p l) (view m p 17) ≡ digit_part b l
      one l hl =
          ap₂ (λ (u w : ℕ). f u w (view m p l) (view m p 17)) (vec-powers t x b l e hl) (vec-powers t x b 17 e (omega arith))
          ∙ ap₂ (f (times_power b (vec t l)) (times_power b (vec t 17))) (mask l) (mask 17)

  pub digits-end : (r : List ℕ) (b : ℕ) → b ≡ 8 → r ≡ sofar 24 (vec z) digit_part b → r ≡ tab 24 (λ l. vec z l ⊕ by_digits f m k t l)
  unfolding by_digits digit_part
  digits-end r b e p = sofar-end 24 (vec z) digit_part r b 8 _ e p (λ l h. refl)

-- of t times vector k
abbrev pub product : ℕ → ℕ → ℕ → ℕ → ℕ
product x x17 y y17 = bit_and x y

-- of t times lane 17 of vector k, and lane 17 of t times vector k
abbrev pub cross : ℕ → ℕ → ℕ → ℕ → ℕ
cross x x17 y y17 = bit_and x y17 ⊕ bit_and x17 y

module _ (m : List ℕ) (k : ℕ) (t z : List ℕ) (hk : k < 57) (v : ℕ → ℕ → ℕ) (masks : Masks m v) where
  pub product-is : tab 24 (λ l. vec z l ⊕ by_digits product m k t l) ≡ tab 24 (λ l. vec z l ⊕ (vec t l ⊗ v k l))
  unfolding by_digits
  product-is = tab-ext 24 _ _ (λ l h. ap (vec z l ⊕◌) (masked-product m v masks k l hk h (vec t l)))

  pub cross-is : tab 24 (λ l. vec z l ⊕ by_digits cross m k t l) ≡ tab 24 (λ l. vec z l ⊕ ((vec t l ⊗ v k 17) ⊕ (vec t 17 ⊗ v k l)))
  unfolding by_digits
  cross-is =
      tab-ext 24 _ _
      (λ l h.
      ap (vec z l ⊕◌)
      (sum-⊕ 8 (λ b. bit_and (times_power b (vec t l)) (view m (192 * k) (24 * b + 17)))
      (λ b. bit_and (times_power b (vec t 17)) (view m (192 * k) (24 * b + l)))
      ∙ ap₂ ◌⊕◌ (masked-product m v masks k 17 hk (omega arith) (vec t l)) (masked-product m v masks k l hk h (vec t 17))))
