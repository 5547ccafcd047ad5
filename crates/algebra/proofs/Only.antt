-- A function that is 0 but at one place, and its sum. Assumes nothing.
use mathlib.Core.Path.{◌≡◌, sym, ap, ◌∙◌, fun_ext}
use mathlib.Core.Bool.{Bool, true, false, cond}
use Prim.Native.Nat.{ℕ, ◌<◌}
use lib.Dec.{eqb}
use Rattle.octets.specs.Xor.{◌⊕◌}
use Rattle.octets.proofs.Xor.{⊕-comm, ⊕-zero-l, ⊕-zero-r, ⊕·sort}
use Rattle.field.specs.Vec.{sum, skip}
use Rattle.field.proofs.Sum.{sum-⊕, sum-skip}

-- f at place s, and 0 elsewhere
unfoldable pub only : ℕ → (ℕ → ℕ) → ℕ → ℕ
only s f k = cond (eqb k s) (f k) 0

only-skip : (s : ℕ) (f : ℕ → ℕ) (k : ℕ) → only s f k ⊕ skip s f k ≡ f k
unfolding only skip
only-skip s f k = go (eqb k s)
  where
    go : (t : Bool) → cond t (f k) 0 ⊕ cond t 0 (f k) ≡ f k
    go true = ⊕-zero-r (f k)
    go false = ⊕-zero-l (f k)

pub sum-only : (n s : ℕ) (f : ℕ → ℕ) → s < n → sum n (only s f) ≡ f s
sum-only n s f h =
    cancel (sum n (only s f)) (f s) (sum n (skip s f))
    (sym (sum-⊕ n (only s f) (skip s f)) ∙ ap (sum n) (fun_ext (only-skip s f)) ∙ sym (sum-skip n s f h) ∙ ⊕-comm (sum n (skip s f)) (f s))
  where
    cancel : (a b c : ℕ) → a ⊕ c ≡ b ⊕ c → a ≡ b
    cancel a b c e = sym (twice a c) ∙ ap (◌⊕ c) e ∙ twice b c
      where
        twice : (a c : ℕ) → a ⊕ c ⊕ c ≡ a
        twice a c = simp ⊕·sort
