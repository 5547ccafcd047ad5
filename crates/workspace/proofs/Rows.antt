-- 17 rows of 28 bytes, as α_0 and α_1 stand in the workspace. Assumes nothing.
use mathlib.Core.Path.{◌≡◌, sym, subst, ◌∙◌}
use mathlib.Core.List.{List}
use Prim.Native.Nat.{ℕ, ◌+◌, ◌*◌, ◌/◌, ◌%◌, ◌<◌, ◌≤◌}
use native.Mathlib.Omega.{arith}
use lib.ListN.{length}
use Rattle.octets.specs.Lists.{vec, tab, part, joined}
use Rattle.octets.proofs.Tab.{length-tab, vec-tab}
use Rattle.octets.proofs.Part.{length-joined}
use Rattle.octets.proofs.Frame.{vec-joined, part-is}

-- element k of all of them, by rows
by_rows : (P : ℕ → Type 0) → ((e j : ℕ) → e < 17 → j < 28 → P (28 * e + j)) → (k : ℕ) → k < 476 → P k
by_rows P h k hk =
    let e : 28 * (k / 28) + k % 28 ≡ k = omega arith in
    subst P e (h (k / 28) (k % 28) (omega arith) (omega arith))

pub rows_are : (a : ℕ) (w : List ℕ) (f : ℕ → ℕ → ℕ) → a + 476 ≤ length w → ((e j : ℕ) → e < 17 → j < 28 → vec w (a + (28 * e + j)) ≡ f e j)
    → part a 476 w ≡ joined 17 (λ e. tab 28 (f e))
rows_are a w f hw h =
    part-is a 476 w (joined 17 (λ e. tab 28 (f e))) hw (length-joined 17 28 (λ e. tab 28 (f e)) (λ e he. length-tab 28 (f e)))
    (by_rows (λ (k : ℕ). vec w (a + k) ≡ vec (joined 17 (λ e. tab 28 (f e))) k)
    (λ e j he hj. h e j he hj ∙ sym (vec-joined 17 28 (λ e. tab 28 (f e)) (λ e he. length-tab 28 (f e)) e j he hj ∙ vec-tab 28 (f e) j hj)))
