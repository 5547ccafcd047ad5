-- A part of a buffer that was lent and came back. The code names it by a place a of its own, which is o. Assumes nothing.
use mathlib.Core.Path.{◌≡◌, sym, ap, ◌∙◌}
use mathlib.Core.List.{List, ◌++◌}
use Prim.Native.Nat.{ℕ, ◌+◌, ◌-◌, ◌≤◌}
use native.Mathlib.Omega.{arith}
use lib.ListN.{length, take, drop}
use Rattle.octets.specs.Lists.{part}
use Rattle.octets.specs.Place.{place}
use Rattle.octets.proofs.Part.{length_part}
use Rattle.octets.proofs.Place.{length-place, place-back}

-- of s the n bytes p from o on were lent and came back as y: s is t then
pub record Lent (o n : ℕ) (s p y t : List ℕ) : Type 0 where
  pub was : p ≡ part o n s
  pub size : length y ≡ n
  pub after : t ≡ place o y s

pub length-after : {o n : ℕ} {s p y t : List ℕ} → Lent o n s p y t → length t ≡ length s
length-after {o} {s = s} {y = y} l = ap length l.after ∙ length-place o y s

-- ---- the slice from a to a + n

abbrev pub slice : ℕ → ℕ → List ℕ → List ℕ
slice a n s = take (a + n - a) (drop a s)

span : (a n : ℕ) → a + n - a ≡ n
span a n = omega arith

pub slice_is : (a n : ℕ) (s : List ℕ) → slice a n s ≡ part a n s
unfolding part
slice_is a n s = ap (λ (k : ℕ). take k (drop a s)) (span a n)

pub length-slice : (a n : ℕ) (s : List ℕ) → a + n ≤ length s → length (slice a n s) ≡ n
length-slice a n s h = ap length (slice_is a n s) ∙ length_part a n s h

module _ (a o n : ℕ) (ea : a ≡ o) where
  pub slice_at : (s : List ℕ) → slice a n s ≡ part o n s
  slice_at s = slice_is a n s ∙ ap (λ (i : ℕ). part i n s) ea

  pub lent : (y s : List ℕ) → o + n ≤ length s → length y ≡ length (slice a n s)
      → Lent o n s (slice a n s) y (take a s ++ (y ++ drop (a + n - a) (drop a s)))
  lent y s h ly = record {
    was = slice_at s;
    size = long;
    after = place-back a (a + n - a) y s (long ∙ sym (span a n)) (omega (arith, ea)) ∙ ap (λ (i : ℕ). place i y s) ea;
  }
    where
      long : length y ≡ n
      long = ly ∙ length-slice a n s (omega (arith, ea))

-- ---- the front, up to a, which is n

pub lent-front : (a n : ℕ) → a ≡ n → (y s : List ℕ) → n ≤ length s → length y ≡ length (take a s) → Lent 0 n s (take a s) y (y ++ drop a s)
unfolding part
lent-front a n ea y s h ly = record {
  was = ap (λ (k : ℕ). take k s) ea;
  size = long;
  after = place-back 0 a y s (long ∙ sym ea) (omega (arith, ea));
}
  where
    long : length y ≡ n
    long = ly ∙ ap (λ (k : ℕ). length (take k s)) ea ∙ length_part 0 n s (omega arith)
