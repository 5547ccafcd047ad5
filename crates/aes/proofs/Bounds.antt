-- Lengths, and that bytes give bytes. Assumes nothing.
use mathlib.Core.Path.{◌≡◌, refl, ap, ◌∙◌}
use mathlib.Core.List.{List, [], ◌∷◌, map}
use Prim.Native.Nat.{ℕ, zero, suc, ◌+◌, ◌-◌, ◌<◌}
use native.Mathlib.Omega.{arith}
use lib.Dec.{lit<}
use lib.ListN.{length, length-append}
use Rattle.octets.specs.Lists.{Bytes, view, tab, part}
use Rattle.octets.proofs.Xor.{length-xor_b}
use Rattle.octets.proofs.Tab.{length-tab}
use Rattle.octets.proofs.Part.{length_part, length-joined}
use Rattle.octets.proofs.Bounds.{bytes-at, bytes-part, bytes-joined, bytes-xor_b, bytes-tab}
use Rattle.field.proofs.Product.{root-lt}
use Rattle.aes.specs.Sbox.{sbox}
use Rattle.aes.specs.Cipher.{sub_bytes, shift_rows, add_round_key, cipher, rot_word, x_power, rcon, temp, key_word, expand_key, aes128}
use Rattle.aes.proofs.Sbox.{sbox-lt}

pub aes128-is : (k x : List ℕ) → cipher (expand_key k) x ≡ aes128 k x
unfolding aes128
aes128-is k x = refl

-- ---- lengths

length-map : (f : ℕ → ℕ) (s : List ℕ) → length (map f s) ≡ length s
length-map f [] = refl
length-map f (x ∷ s) = ap suc (length-map f s)

pub length-sub_bytes : (s : List ℕ) → length (sub_bytes s) ≡ length s
unfolding sub_bytes
length-sub_bytes s = length-map sbox s

pub length-rot_word : (s : List ℕ) → length (rot_word s) ≡ length s
unfolding rot_word
length-rot_word [] = refl
length-rot_word (a ∷ s) = length-append s (a ∷ []) ∙ omega arith

length-temp : (q j : ℕ) (t : List ℕ) → length t ≡ 4 → length (temp q j t) ≡ 4
unfolding temp rcon
length-temp zero j t h = length-xor_b 4 (sub_bytes (rot_word t)) _ (length-sub_bytes (rot_word t) ∙ length-rot_word t ∙ h) refl
length-temp (suc q) j t h = h

pub length-key_word : (k : List ℕ) (i : ℕ) → length (key_word k i) ≡ 4
unfolding key_word
length-key_word k zero = length-tab 4 (view k 0)
length-key_word k (suc zero) = length-tab 4 (view k 4)
length-key_word k (suc (suc zero)) = length-tab 4 (view k 8)
length-key_word k (suc (suc (suc zero))) = length-tab 4 (view k 12)
length-key_word k (suc (suc (suc (suc i)))) =
    length-xor_b 4 (key_word k i) _ (length-key_word k i) (length-temp _ _ (key_word k (suc (suc (suc i)))) (length-key_word k (suc (suc (suc i)))))

pub length-expand_key : (k : List ℕ) → length (expand_key k) ≡ 176
unfolding expand_key
length-expand_key k = length-joined 44 4 (key_word k) (λ i h. length-key_word k i)

pub length-cipher : (w x : List ℕ) → length w ≡ 176 → length (cipher w x) ≡ 16
unfolding cipher add_round_key shift_rows
length-cipher w x h = length-xor_b 16 _ (part 160 16 w) (length-tab 16 _) (length_part 160 16 w (omega arith))

pub length-aes128 : (k x : List ℕ) → length (aes128 k x) ≡ 16
unfolding aes128
length-aes128 k x = length-cipher (expand_key k) x (length-expand_key k)

-- ---- bytes

pub bytes-sub_bytes : (s : List ℕ) → Bytes (sub_bytes s)
unfolding sub_bytes Bytes
bytes-sub_bytes [] = tt
bytes-sub_bytes (x ∷ s) = (sbox-lt x, bytes-sub_bytes s)

pub bytes-shift_rows : (s : List ℕ) → Bytes s → Bytes (shift_rows s)
unfolding shift_rows
bytes-shift_rows s p = bytes-tab 16 _ (λ i h. bytes-at s p _)

pub x_power-lt : (j : ℕ) → x_power j < 256
unfolding x_power
x_power-lt zero = lit< tt
x_power-lt (suc j) = root-lt 7 _ (lit< tt) (x_power j)

bytes-rcon : (j : ℕ) → Bytes (rcon j)
unfolding rcon Bytes
bytes-rcon j = (x_power-lt (j - 1), (lit< tt, (lit< tt, (lit< tt, tt))))

bytes-temp : (q j : ℕ) (t : List ℕ) → Bytes t → Bytes (temp q j t)
unfolding temp
bytes-temp zero j t p = bytes-xor_b (sub_bytes (rot_word t)) (rcon j) (bytes-sub_bytes (rot_word t)) (bytes-rcon j)
bytes-temp (suc q) j t p = p

bytes-own : (k : List ℕ) (o : ℕ) → Bytes k → Bytes (tab 4 (view k o))
bytes-own k o p = bytes-tab 4 (view k o) (λ i h. bytes-at k p (o + i))

pub bytes-key_word : (k : List ℕ) → Bytes k → (i : ℕ) → Bytes (key_word k i)
unfolding key_word
bytes-key_word k p zero = bytes-own k 0 p
bytes-key_word k p (suc zero) = bytes-own k 4 p
bytes-key_word k p (suc (suc zero)) = bytes-own k 8 p
bytes-key_word k p (suc (suc (suc zero))) = bytes-own k 12 p
bytes-key_word k p (suc (suc (suc (suc i)))) =
    bytes-xor_b (key_word k i) _ (bytes-key_word k p i) (bytes-temp _ _ (key_word k (suc (suc (suc i)))) (bytes-key_word k p (suc (suc (suc i)))))

pub bytes-expand_key : (k : List ℕ) → Bytes k → Bytes (expand_key k)
unfolding expand_key
bytes-expand_key k p = bytes-joined 44 (key_word k) (λ i h. bytes-key_word k p i)

pub bytes-cipher : (w x : List ℕ) → Bytes w → Bytes (cipher w x)
unfolding cipher add_round_key
bytes-cipher w x p = bytes-xor_b _ _ (bytes-shift_rows _ (bytes-sub_bytes _)) (bytes-part 160 16 w p)

pub bytes-aes128 : (k x : List ℕ) → Bytes k → Bytes (aes128 k x)
unfolding aes128
bytes-aes128 k x p = bytes-cipher (expand_key k) x (bytes-expand_key k p)
