-- Key expansion on columns, four a turn, is FIPS 197's, word by word. Assumes nothing.
use mathlib.Core.Path.{◌≡◌, refl, ap, ap₂, ◌∙◌, sym}
use mathlib.Core.List.{List, [], ◌∷◌, ◌++◌}
use Prim.Native.Nat.{ℕ, zero, suc, ◌+◌, ◌-◌, ◌*◌, ◌/◌, ◌%◌, ◌≤◌, ◌<◌}
use native.Mathlib.Numerals.{add-three, add-four}
use native.Mathlib.Omega.{arith}
use lib.Bits.{bit_xor}
use lib.ListN.{length}
use Rattle.octets.specs.Lists.{tab, part, joined, bytes_of}
use Rattle.octets.specs.Xor.{◌⊕◌, xor_b}
use Rattle.octets.specs.Place.{place}
use Rattle.octets.proofs.Xor.{⊕-zero-r}
use Rattle.octets.proofs.Part.{part-all}
use Rattle.octets.proofs.Frame.{part-grows}
use Rattle.aes.specs.declared.Cols.{Cols}
use Rattle.aes.specs.Sbox.{sbox}
use Rattle.aes.specs.Cipher.{sub_bytes, rot_word, x_power, rcon, temp, key_word, expand_key}
use Rattle.aes.specs.Words.{block_of, NextKey}
use Rattle.octets.proofs.Laid.{joined-four}
use Rattle.aes.proofs.Words.{four, rows}
use Rattle.aes.proofs.Blocks.{length-block_of}

-- the changed word of a turn
pub changed : (d rc y0 y1 y2 y3 : ℕ) → y0 ≡ sbox (d / 256 % 256) → y1 ≡ sbox (d / 65536 % 256) → y2 ≡ sbox (d / 16777216 % 256)
    → y3 ≡ sbox (d % 256)
    → bit_xor y0 rc ∷ y1 ∷ y2 ∷ y3 ∷ [] ≡ xor_b (sub_bytes (rot_word (bytes_of 4 d))) (rc ∷ 0 ∷ 0 ∷ 0 ∷ [])
unfolding xor_b sub_bytes rot_word ◌⊕◌
changed d rc y0 y1 y2 y3 e0 e1 e2 e3 =
    four (ap (λ (z : ℕ). z ⊕ rc) e0) (e1 ∙ sym (⊕-zero-r (sbox (d / 65536 % 256)))) (e2 ∙ sym (⊕-zero-r (sbox (d / 16777216 % 256)))) (e3 ∙ sym (⊕-zero-r (sbox (d % 256))))
    ∙ ap (λ (l : List ℕ). xor_b (sub_bytes (rot_word l)) (rc ∷ 0 ∷ 0 ∷ 0 ∷ [])) (sym (rows d))

-- ---- the recursion, by `+`

key-rec : (key : List ℕ) (i : ℕ) → key_word key (i + 4) ≡ xor_b (key_word key i) (temp ((i + 4) % 4) ((i + 4) / 4) (key_word key (i + 3)))
unfolding key_word
key-rec key i =
    ap (key_word key) (add-four i)
    ∙ ap (λ (n : ℕ). xor_b (key_word key i) (temp ((i + 4) % 4) ((i + 4) / 4) (key_word key n))) (sym (add-three i))

temp-zero : (a j : ℕ) (t : List ℕ) → a ≡ 0 → temp a j t ≡ xor_b (sub_bytes (rot_word t)) (rcon j)
unfolding temp
temp-zero a j t e = ap (λ (n : ℕ). temp n j t) e

temp-other : (a j : ℕ) (t : List ℕ) → (a ≡ 0 → ⊥) → temp a j t ≡ t
unfolding temp
temp-other zero j t h = absurd (h refl)
temp-other (suc a) j t h = refl

key-first : (key : List ℕ) (r : ℕ)
    → key_word key (4 * r + 4) ≡ xor_b (key_word key (4 * r)) (xor_b (sub_bytes (rot_word (key_word key (4 * r + 3)))) (x_power r ∷ 0 ∷ 0 ∷ 0 ∷ []))
unfolding rcon
key-first key r =
    let e : (4 * r + 4) % 4 ≡ 0 = omega arith in
    let f : (4 * r + 4) / 4 - 1 ≡ r = omega arith in
    key-rec key (4 * r)
    ∙ ap (xor_b (key_word key (4 * r)))
    (temp-zero ((4 * r + 4) % 4) ((4 * r + 4) / 4) (key_word key (4 * r + 3)) e
    ∙ ap (λ (n : ℕ). xor_b (sub_bytes (rot_word (key_word key (4 * r + 3)))) (x_power n ∷ 0 ∷ 0 ∷ 0 ∷ [])) f)

key-other : (key : List ℕ) (i : ℕ) → ((i + 4) % 4 ≡ 0 → ⊥) → key_word key (i + 4) ≡ xor_b (key_word key i) (key_word key (i + 3))
key-other key i h = key-rec key i ∙ ap (xor_b (key_word key i)) (temp-other ((i + 4) % 4) ((i + 4) / 4) (key_word key (i + 3)) h)

-- ---- a turn

-- k holds the expanded key's words from 4 * r on
pub record Held (key : List ℕ) (r : ℕ) (k : Cols) : Type 0 where
  pub at0 : bytes_of 4 k.a ≡ key_word key (4 * r)
  pub at1 : bytes_of 4 k.b ≡ key_word key (4 * r + 1)
  pub at2 : bytes_of 4 k.c ≡ key_word key (4 * r + 2)
  pub at3 : bytes_of 4 k.d ≡ key_word key (4 * r + 3)

pub held-own : (k : Cols) → Held (block_of k) 0 k
unfolding key_word block_of bytes_of tab
held-own k = record { at0 = refl; at1 = refl; at2 = refl; at3 = refl }

-- a word after the first of a turn
after : (key : List ℕ) (i m n x y z : ℕ) → bytes_of 4 z ≡ xor_b (bytes_of 4 x) (bytes_of 4 y) → bytes_of 4 x ≡ key_word key i → bytes_of 4 y ≡ key_word key m
    → m ≡ i + 3
    → n ≡ i + 4
    → ((i + 4) % 4 ≡ 0 → ⊥)
    → bytes_of 4 z ≡ key_word key n
after key i m n x y z e f g p q h =
    e ∙ ap₂ xor_b f (g ∙ ap (key_word key) p) ∙ sym (key-other key i h) ∙ ap (key_word key) (sym q)

pub held-turn : (key : List ℕ) (r : ℕ) (k : Cols) (rc : ℕ) (n : Cols) → NextKey k rc n → Held key r k → rc ≡ x_power r → Held key (r + 1) n
held-turn key r k rc n x h e =
    let p : 4 * r + 4 ≡ 4 * (r + 1) = omega arith in
    let e0 : bytes_of 4 n.a ≡ key_word key (4 * (r + 1)) =
    x.first
    ∙ ap₂ xor_b h.at0 (ap₂ (λ (t : List ℕ) (z : ℕ). xor_b (sub_bytes (rot_word t)) (z ∷ 0 ∷ 0 ∷ 0 ∷ [])) h.at3 e)
    ∙ sym (key-first key r)
    ∙ ap (key_word key) p in
    let e1 : bytes_of 4 n.b ≡ key_word key (4 * (r + 1) + 1) =
    after key (4 * r + 1) (4 * (r + 1)) (4 * (r + 1) + 1) k.b n.a n.b x.second h.at1 e0 (omega arith) (omega arith) (λ z. omega arith) in
    let e2 : bytes_of 4 n.c ≡ key_word key (4 * (r + 1) + 2) =
    after key (4 * r + 2) (4 * (r + 1) + 1) (4 * (r + 1) + 2) k.c n.b n.c x.third h.at2 e1 (omega arith) (omega arith) (λ z. omega arith) in
    let e3 : bytes_of 4 n.d ≡ key_word key (4 * (r + 1) + 3) =
    after key (4 * r + 3) (4 * (r + 1) + 2) (4 * (r + 1) + 3) k.d n.c n.d x.fourth h.at3 e2 (omega arith) (omega arith) (λ z. omega arith) in
    record { at0 = e0; at1 = e1; at2 = e2; at3 = e3 }

-- ---- the expanded key, filled from the front

-- the words of round key r, behind those before it
words_more : (key : List ℕ) (r : ℕ) (k : Cols) → Held key r k → joined (4 * r) (key_word key) ++ block_of k ≡ joined (4 * r + 4) (key_word key)
unfolding block_of
words_more key r k h = cc (joined-four (4 * r) (key_word key))

pub stored-none : (key w : List ℕ) → part 0 (16 * 0) w ≡ joined (4 * 0) (key_word key)
unfolding part joined
stored-none key w = refl

-- round key r is stored at q
pub stored_more : (key : List ℕ) (r : ℕ) (k : Cols) (w : List ℕ) (q : ℕ) {n : List ℕ} → n ≡ place q (block_of k) w → q ≡ 16 * r → length w ≡ 176
    → r < 11
    → part 0 (16 * r) w ≡ joined (4 * r) (key_word key)
    → Held key r k
    → part 0 (16 * (r + 1)) n ≡ joined (4 * (r + 1)) (key_word key)
stored_more key r k w q {n} e p l h s held =
    ap₂ (λ (m : ℕ) (v : List ℕ). part 0 m v) bytes-more (e ∙ ap (λ (a : ℕ). place a (block_of k) w) from_start)
    ∙ part-grows 0 (16 * r) 16 (joined (4 * r) (key_word key)) (block_of k) w s (length-block_of k) (omega arith)
    ∙ words_more key r k held
    ∙ ap (λ (m : ℕ). joined m (key_word key)) count-more
  where
    bytes-more : 16 * (r + 1) ≡ 16 * r + 16
    bytes-more = omega arith

    from_start : q ≡ 0 + 16 * r
    from_start = omega arith

    count-more : 4 * r + 4 ≡ 4 * (r + 1)
    count-more = omega arith

pub expanded : (key w : List ℕ) (r : ℕ) → length w ≡ 176 → r ≤ 10 → 10 ≤ r → part 0 (16 * (r + 1)) w ≡ joined (4 * (r + 1)) (key_word key) → w ≡ expand_key key
unfolding expand_key
expanded key w r l h h' e =
    sym (part-all 176 w l) ∙ ap (λ (m : ℕ). part 0 (16 * (m + 1)) w) (sym ten) ∙ e ∙ ap (λ (m : ℕ). joined (4 * (m + 1)) (key_word key)) ten
  where
    ten : r ≡ 10
    ten = omega arith
