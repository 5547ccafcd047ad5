-- Lists of seeds: what holds of each of them, and what follows for the seeds laid end to end. Assumes nothing.
use mathlib.Core.Path.{◌≡◌, refl, ap, ap₂, ◌∙◌}
use mathlib.Core.List.{List, [], ◌∷◌, ◌++◌}
use mathlib.Core.Bool.{Bool, true, false, cond}
use Prim.Native.Nat.{ℕ, zero, suc, ◌+◌, ◌-◌, ◌*◌, ◌<◌, ◌≤◌}
use native.Mathlib.Omega.{arith}
use lib.ListN.{length, get_or, set, take, drop, length-append}
use lib.Seq.{take_at, drop-append-add}
use Rattle.octets.specs.Lists.{Bytes, flat, part}
use Rattle.octets.proofs.Bounds.{bytes-append}

unfoldable pub Each : (List ℕ → Type 0) → List (List ℕ) → Type 0
Each P [] = Unit {0}
Each P (s ∷ ss) = P s × Each P ss

module _ (P : List ℕ → Type 0) where
  pub each-one : (s : List ℕ) → P s → Each P (s ∷ [])
  unfolding Each
  each-one s p = (p, tt)

  pub each_append : (a b : List (List ℕ)) → Each P a → Each P b → Each P (a ++ b)
  unfolding Each
  each_append [] b p q = q
  each_append (s ∷ a) b p q = (p.0, each_append a b p.1 q)

  pub each-cond : (t : Bool) (a b : List (List ℕ)) → Each P a → Each P b → Each P (cond t a b)
  each-cond true a b p q = p
  each-cond false a b p q = q

  pub each_set : (a : List (List ℕ)) (i : ℕ) (x : List ℕ) → P x → Each P a → Each P (set a i x)
  unfolding Each
  each_set [] i x h p = p
  each_set (s ∷ a) zero x h p = (h, p.1)
  each_set (s ∷ a) (suc i) x h p = (p.0, each_set a i x h p.1)

  pub each_at : (a : List (List ℕ)) (k : ℕ) → Each P a → k < length a → P (get_or a k [])
  unfolding Each
  each_at [] k p h = absurd (omega arith)
  each_at (s ∷ a) zero p h = p.0
  each_at (s ∷ a) (suc k) p h = each_at a k p.1 (omega arith)

-- ---- 16 bytes each

abbrev pub All16 : List (List ℕ) → Type 0
All16 = Each (λ s. length s ≡ 16)

pub length-flat : (a : List (List ℕ)) → All16 a → length (flat a) ≡ 16 * length a
unfolding Each flat
length-flat [] p = refl
length-flat (s ∷ a) p = length-append s (flat a) ∙ ap₂ ◌+◌ p.0 (length-flat a p.1) ∙ omega arith

-- the seed at place k of seeds laid end to end is the k-th of them
pub part-flat : (a : List (List ℕ)) (k : ℕ) → All16 a → k < length a → part (16 * k) 16 (flat a) ≡ get_or a k []
unfolding Each part flat
part-flat [] k p h = absurd (omega arith)
part-flat (s ∷ a) zero p h = take_at s (flat a) 16 p.0
part-flat (s ∷ a) (suc k) p h =
    let e : 16 * suc k ≡ length s + 16 * k = omega (arith, p.0) in
    ap (λ (n : ℕ). take 16 (drop n (s ++ flat a))) e ∙ ap (take 16) (drop-append-add s (flat a) (16 * k)) ∙ part-flat a k p.1 (omega arith)

-- ---- bytes

pub bytes-flat : (a : List (List ℕ)) → Each Bytes a → Bytes (flat a)
unfolding Each flat
bytes-flat [] p = unfold Bytes in tt
bytes-flat (s ∷ a) p = bytes-append s (flat a) p.0 (bytes-flat a p.1)

pub bytes-get_or : (a : List (List ℕ)) (k : ℕ) → Each Bytes a → Bytes (get_or a k [])
unfolding Each
bytes-get_or [] k p = unfold Bytes in tt
bytes-get_or (s ∷ a) zero p = p.0
bytes-get_or (s ∷ a) (suc k) p = bytes-get_or a k p.1

-- ---- a seed is replaced in the second of two lists

pub set_append_right : (a b : List (List ℕ)) (i n : ℕ) (x : List ℕ) → length a ≡ n → n ≤ i → set (a ++ b) i x ≡ a ++ set b (i - n) x
set_append_right [] b i n x e h = ap (λ (k : ℕ). set b k x) (omega arith)
set_append_right (y ∷ a) b zero n x e h = absurd (omega arith)
set_append_right (y ∷ a) b (suc i) zero x e h = absurd (omega arith)
set_append_right (y ∷ a) b (suc i) (suc n) x e h =
    ap (λ (l : List (List ℕ)). y ∷ l) (set_append_right a b i n x (omega arith) (omega arith) ∙ ap (λ (k : ℕ). a ++ set b k x) (omega arith))
