-- What the exported functions answer: 0 where they do their work, and a number of their own where lengths don't fit; a buffer is then as it
-- was. Definitions only.
use Rattle.std.specs.Prelude.{◌≡◌, Bool, cond, ◌&&◌, List, ℕ, ◌*◌, ◌/◌, ◌%◌, eqb, length}
use Rattle.octets.specs.Lists.{vec, tab, part, joined}
use Rattle.octets.specs.Xor.{◌⊕◌}
use Rattle.field.specs.Gf.{◌⊗◌}
use Rattle.field.specs.Vec.{dot}
use Rattle.aes.specs.Cipher.{cipher, expand_key}

-- ---- kernels_encrypt

-- the blocks of l, each by itself under the expanded key w
unfoldable pub each_block : List ℕ → List ℕ → List ℕ
each_block w l = joined (length l / 16) (λ i. cipher w (part (16 * i) 16 l))

-- a key and whole blocks
abbrev pub fits : ℕ → ℕ → Bool
fits k n = eqb k 16 && eqb (n % 16) 0

pub record Encrypts (key buf : List ℕ) (r : ℕ) (after : List ℕ) : Type 0 where
  pub number : r ≡ cond (fits (length key) (length buf)) 0 1
  pub output : after ≡ cond (fits (length key) (length buf)) (each_block (expand_key key) buf) buf

-- ---- kernels_dot

abbrev pub dot_or256 : List ℕ → List ℕ → ℕ
dot_or256 a b = cond (eqb (length a) (length b)) (dot (length a) (vec a) (vec b)) 256

-- ---- kernels_add_scaled

abbrev pub add_scaled : List ℕ → ℕ → List ℕ → List ℕ
add_scaled d w s = tab (length d) (λ i. vec d i ⊕ (w ⊗ vec s i))

pub record AddsScaled (d : List ℕ) (w : ℕ) (s : List ℕ) (r : ℕ) (after : List ℕ) : Type 0 where
  pub number : r ≡ cond (eqb (length d) (length s)) 0 1
  pub output : after ≡ cond (eqb (length d) (length s)) (add_scaled d w s) d
