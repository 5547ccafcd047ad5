-- The output, byte by byte, and a loop that writes it. Assumes nothing.
use mathlib.Core.Path.{◌≡◌, refl, sym, ap, ap₂, ◌∙◌}
use mathlib.Core.List.{List, ◌++◌}
use Prim.Native.Nat.{ℕ, zero, suc, ◌+◌, ◌*◌, ◌/◌, ◌%◌, ◌<◌, ◌≤◌}
use native.Mathlib.Nat.{mod-lt}
use native.Mathlib.Omega.{arith}
use lib.Dec.{lit<}
use lib.ListN.{length, take}
use Rattle.octets.specs.Lists.{Bytes, vec, tab}
use Rattle.octets.proofs.Tab.{length-tab, vec-tab, tab-ext, tab-append}
use Rattle.octets.proofs.Bounds.{bytes-tab}
use Rattle.shake.specs.Keccak.{keccak_f}
use Rattle.shake.specs.Shake.{byte_of, squeeze_blocks, output}
use Rattle.octets.proofs.Slices.{take-tab}

-- the state after n permutations more
unfoldable pub after : ℕ → List ℕ → List ℕ
after zero a = a
after (suc n) a = after n (keccak_f a)

pub after-zero : (a : List ℕ) → a ≡ after 0 a
unfolding after
after-zero a = refl

pub after-suc : (n : ℕ) (a : List ℕ) → keccak_f (after n a) ≡ after (suc n) a
unfolding after
after-suc zero a = refl
after-suc (suc n) a = after-suc n (keccak_f a)

-- byte i of the output
unfoldable pub out_byte : List ℕ → ℕ → ℕ
out_byte a i = byte_of (after (i / 168) a) (i % 168)

out_byte-first : (a : List ℕ) (i : ℕ) → i < 168 → byte_of a i ≡ out_byte a i
unfolding out_byte after
out_byte-first a i h = ap₂ (λ (q r : ℕ). byte_of (after q a) r) high low
  where
    high : 0 ≡ i / 168
    high = omega arith

    low : i ≡ i % 168
    low = omega arith

out_byte-rest : (a : List ℕ) (i : ℕ) → out_byte (keccak_f a) i ≡ out_byte a (168 + i)
unfolding out_byte after
out_byte-rest a i = ap₂ (λ (q r : ℕ). byte_of (after q a) r) high low
  where
    high : suc (i / 168) ≡ (168 + i) / 168
    high = omega arith

    low : i % 168 ≡ (168 + i) % 168
    low = omega arith

squeeze_blocks-tab : (n : ℕ) (a : List ℕ) → squeeze_blocks n a ≡ tab (168 * n) (out_byte a)
unfolding squeeze_blocks tab
squeeze_blocks-tab zero a = refl
squeeze_blocks-tab (suc n) a =
    ap₂ ◌++◌
    (tab-ext 168 (byte_of a) (out_byte a) (out_byte-first a))
    (squeeze_blocks-tab n (keccak_f a) ∙ tab-ext (168 * n) (out_byte (keccak_f a)) (λ i. out_byte a (168 + i)) (λ i h. out_byte-rest a i))
    ∙ sym (tab-append 168 (168 * n) (out_byte a))
    ∙ ap (λ (k : ℕ). tab k (out_byte a)) more
  where
    more : 168 + 168 * n ≡ 168 * suc n
    more = omega arith

out_byte-lt : (a : List ℕ) (i : ℕ) → out_byte a i < 256
unfolding out_byte
out_byte-lt a i = mod-lt _ (lit< tt)

pub output-tab : (a : List ℕ) (n : ℕ) → output a n ≡ tab n (out_byte a)
unfolding output
output-tab a n = ap (take n) (squeeze_blocks-tab (n / 168 + 1) a) ∙ take-tab n (168 * (n / 168 + 1)) (out_byte a) (omega arith)

pub length-output : (a : List ℕ) (n : ℕ) → length (output a n) ≡ n
length-output a n = ap length (output-tab a n) ∙ length-tab n (out_byte a)

pub bytes-output : (a : List ℕ) (n : ℕ) → Bytes (output a n)
bytes-output a n = rw output-tab (bytes-tab n (out_byte a) (λ i h. out_byte-lt a i))

pub output-prefix : (a : List ℕ) (k n : ℕ) → k ≤ n → take k (output a n) ≡ output a k
output-prefix a k n h = ap (take k) (output-tab a n) ∙ take-tab k n (out_byte a) h ∙ sym (output-tab a k)

-- ---- a loop that writes the output

-- the state at byte i, whose block it is
pub output-byte : (a x : List ℕ) (n i : ℕ) → x ≡ after (i / 168) a → i < n → byte_of x (i % 168) ≡ vec (output a n) i
unfolding out_byte
output-byte a x n i e h =
    ap (λ (y : List ℕ). byte_of y (i % 168)) e ∙ sym (vec-tab n (out_byte a) i h) ∙ ap (λ (l : List ℕ). vec l i) (sym (output-tab a n))
