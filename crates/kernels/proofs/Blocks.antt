-- A loop that encrypts a buffer in place: before turn i its first i blocks are done. Assumes nothing.
use mathlib.Core.Path.{◌≡◌, sym, ap, ap₂, ◌∙◌}
use mathlib.Core.Bool.{true, ◌&&◌}
use mathlib.Core.List.{List}
use Prim.Native.Nat.{ℕ, ◌+◌, ◌*◌, ◌/◌, ◌%◌, ◌≤◌}
use native.Mathlib.Numerals.{add-one}
use native.Mathlib.Omega.{arith}
use lib.ListN.{length}
use Rattle.octets.specs.Lists.{part, joined}
use Rattle.octets.specs.Place.{place}
use Rattle.octets.proofs.Part.{length-joined}
use Rattle.octets.proofs.Place.{place_none, place-turn, place-whole}
use Rattle.octets.proofs.Frame.{part-after}
use Rattle.aes.specs.Cipher.{cipher}
use Rattle.aes.proofs.Bounds.{length-cipher}
use borrow.Author.Tests.{eq-eqb}
use Rattle.kernels.specs.Kernels.{fits, each_block}

-- block i of l, encrypted
abbrev block : List ℕ → List ℕ → ℕ → List ℕ
block w l i = cipher w (part (16 * i) 16 l)

-- l with its first i blocks encrypted
unfoldable pub done : List ℕ → List ℕ → ℕ → List ℕ
done w l i = place 0 (joined i (block w l)) l

length-blocks : (w l : List ℕ) (i : ℕ) → length w ≡ 176 → length (joined i (block w l)) ≡ i * 16
length-blocks w l i hw = length-joined i 16 (block w l) (λ k h. length-cipher w _ hw)

pub done_none : (w l : List ℕ) → l ≡ done w l 0
unfolding done joined
done_none w l = sym (place_none 0 l)

-- e holds what the loop has done, and y is block i of e, encrypted
pub done-turn : (w l : List ℕ) (i : ℕ) {e y : List ℕ} → length w ≡ 176 → 16 * i + 16 ≤ length l → e ≡ done w l i → y ≡ cipher w (part (16 * i) 16 e)
    → place (16 * i) y e ≡ done w l (i + 1)
unfolding done
done-turn w l i {e} {y} hw h p q =
    ap (place (16 * i) y) p
    ∙ ap (λ (x : List ℕ). place (16 * i) x (place 0 (joined i (block w l)) l)) (q ∙ ap (λ (s : List ℕ). cipher w (part (16 * i) 16 s)) p ∙ ap (cipher w) (part-after (16 * i) 16 0 (joined i (block w l)) l (omega (arith, long)) h))
    ∙ place-turn 0 (block w l) i l (16 * i) (omega (arith, long))
    ∙ ap (λ (k : ℕ). place 0 (joined k (block w l)) l) (sym (add-one i))
  where
    long : length (joined i (block w l)) ≡ i * 16
    long = length-blocks w l i hw

pub done_all : (w l : List ℕ) (i : ℕ) → length w ≡ 176 → length l % 16 ≡ 0 → i ≡ length l / 16 → done w l i ≡ each_block w l
unfolding done each_block
done_all w l i hw h e = ap (λ (k : ℕ). place 0 (joined k (block w l)) l) e ∙ place-whole _ l (length-blocks w l (length l / 16) hw ∙ omega arith)

-- a key and a buffer that both have a length that is asked for
pub fits_both : (k n : ℕ) → k ≡ 16 → n % 16 ≡ 0 → fits k n ≡ true
fits_both k n e h = ap₂ ◌&&◌ (eq-eqb k 16 e) (eq-eqb (n % 16) 0 h)
