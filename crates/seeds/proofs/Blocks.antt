-- Blocks as four columns: a tweaked salt, and the orthomorphism. Assumes nothing.
use mathlib.Core.Path.{◌≡◌, refl, sym, ap, ◌∙◌}
use mathlib.Core.List.{◌++◌}
use Prim.Native.Nat.{ℕ, ◌/◌, ◌<◌}
use native.Mathlib.Omega.{arith}
use lib.Bits.{bit_xor, xor_zero_r}
use Rattle.octets.specs.Xor.{xor_b}
use Rattle.octets.specs.Lists.{part, bytes_of, zero16}
use Rattle.aes.specs.declared.Cols.{Cols}
use Rattle.aes.specs.Words.{block_of}
use Rattle.aes.proofs.Words.{bytes-xor}
use Rattle.aes.proofs.Blocks.{parts}
use Rattle.aes.proofs.Rounds.{add-law}
use Rattle.paper.specs.Symmetric.{psi}

pub zero-block : block_of (record { a = 0; b = 0; c = 0; d = 0 }) ≡ zero16
unfolding block_of bytes_of
zero-block = refl

-- the sixteen bytes of a number below 2 ^ 32
block-small : (w : ℕ) → w < 4294967296 → block_of (record { a = w; b = 0; c = 0; d = 0 }) ≡ bytes_of 16 w
unfolding block_of bytes_of
block-small w h =
    let z : 0 ≡ w / 256 / 256 / 256 / 256 = omega arith in
    ap (λ (x : ℕ). bytes_of 4 w ++ bytes_of 12 x) z

-- such a number added to a block: the first column alone changes
pub block-tweak : (s : Cols) (w : ℕ) → w < 4294967296
    → block_of (record { a = bit_xor s.a w; b = s.b; c = s.c; d = s.d }) ≡ xor_b (block_of s) (bytes_of 16 w)
block-tweak s w h =
    let k : Cols = record { a = w; b = 0; c = 0; d = 0 } in
    let r : Cols = record { a = bit_xor s.a w; b = s.b; c = s.c; d = s.d } in
    add-law s k r (bytes-xor s.a w) (same s.b) (same s.c) (same s.d) ∙ ap (xor_b (block_of s)) (block-small w h)
  where
    same : (x : ℕ) → bytes_of 4 x ≡ xor_b (bytes_of 4 x) (bytes_of 4 0)
    same x = ap (bytes_of 4) (sym (xor_zero_r x)) ∙ bytes-xor x 0

pub block-psi : (s : Cols) → block_of (record { a = bit_xor s.a s.c; b = bit_xor s.b s.d; c = s.a; d = s.b }) ≡ psi (block_of s)
unfolding block_of bytes_of psi part xor_b
block-psi s = parts {r = bytes_of 4 s.a} {s = bytes_of 4 s.b} (bytes-xor s.a s.c) (bytes-xor s.b s.d) refl refl
