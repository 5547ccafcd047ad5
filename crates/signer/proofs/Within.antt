-- A buffer that changes within a part of it alone. Assumes nothing.
use mathlib.Core.Path.{◌≡◌, ◌∙◌}
use mathlib.Core.List.{List}
use Prim.Native.Nat.{ℕ, ◌+◌, ◌≤◌}
use native.Mathlib.Omega.{arith}
use lib.ListN.{length}
use Rattle.octets.specs.Lists.{part}
use Rattle.octets.specs.Place.{place}
use Rattle.octets.proofs.Place.{length-place}
use Rattle.octets.proofs.Frame.{vec-place-before, vec-place-after, part_ext}
use Rattle.signer.specs.State.{Within}

pub within-trans : (a n : ℕ) (d e f : List ℕ) → Within a n d e → Within a n e f → Within a n d f
within-trans a n d e f p q = record {
  size = q.size ∙ p.size;
  before = λ i h. q.before i h ∙ p.before i h;
  behind = λ i h. q.behind i h ∙ p.behind i h;
}

pub within-place : (a n b : ℕ) (x s : List ℕ) → a ≤ b → b + length x ≤ a + n → Within a n s (place b x s)
within-place a n b x s h k = record {
  size = length-place b x s;
  before = λ i l. vec-place-before b x s i (omega arith);
  behind = λ i l. vec-place-after b x s i (omega arith);
}

-- what is written after a change within the part
pub within_more : (a n : ℕ) (d e : List ℕ) (b : ℕ) (x : List ℕ) → Within a n d e → a ≤ b → b + length x ≤ a + n → Within a n d (place b x e)
within_more a n d e b x p h k = within-trans a n d e (place b x e) p (within-place a n b x e h k)

-- the parts before and behind it
pub within-before : (a n : ℕ) (d e : List ℕ) → Within a n d e → (b m : ℕ) → b + m ≤ a → b + m ≤ length d → part b m e ≡ part b m d
within-before a n d e p b m h l =
    part_ext b b m e d (omega (arith, p.size)) l (λ i hi. p.before (b + i) (omega arith))

pub within-behind : (a n : ℕ) (d e : List ℕ) → Within a n d e → (b m : ℕ) → a + n ≤ b → b + m ≤ length d → part b m e ≡ part b m d
within-behind a n d e p b m h l =
    part_ext b b m e d (omega (arith, p.size)) l (λ i hi. p.behind (b + i) (omega arith))
