-- What the answers mean, of anything that meets the contracts: each number exactly when, the round trip, the edges of a cell, and
-- answers that are ruled out. Assumes nothing.
use mathlib.Core.Path.{◌≡◌, refl, sym, ap, ◌∙◌}
use mathlib.Core.Bool.{Bool, true, false, true≢false, false≢true}
use mathlib.Core.List.{List, [], ◌∷◌, map}
use mathlib.Core.Logic.{◌↔◌}
use Prim.Native.Nat.{ℕ, ◌/◌, ◌<◌}
use native.Mathlib.Omega.{arith}
use lib.Dec.{lit<}
use lib.ListN.{length, replicate, length-map, length-replicate}
use Rattle.octets.specs.Lists.{vec, alike, Bytes}
use Rattle.octets.proofs.Alike.{alike-eq, alike_of, alike-ne}
use Rattle.cells.specs.Character.{is_hex}
use Rattle.cells.specs.Cell.{key_length, cell_length, all_hex, read_bytes, hex_char, write_text, read_number, read_output, CellRead, CellWritten}
use Rattle.cells.proofs.Character.{class-before, not-hex, lowered, plain}
use Rattle.cells.proofs.Text.{Bad, bad-place, hex-bad, all_hex-zeros, read_bytes-zeros, all_hex-lowered, read_bytes-lowered, length-read_bytes, length-write_text, write_text-hex, write_text-high, write_text-plain, read-write_text, write-read_bytes}
use Rattle.cells.proofs.Answers.{Reading, reading, Writing, writing, read-unique, read-0, read-1, read-7, read-8, write-unique, write-0}

-- ---- exactly when

module _ {cell out after : List ℕ} {r : ℕ} (x : CellRead cell out r after) where
  pub read-gives-1 : (r ≡ 1) ↔ (length out ≡ key_length → ⊥)
  read-gives-1 = (to (reading x), λ h. (read-unique x (read-1 h)).0)
    where
      to : Reading cell out r after → r ≡ 1 → length out ≡ key_length → ⊥
      to (Reading.wrong-out h e a) z = h
      to (Reading.wrong-cell h k e a) z = absurd (omega arith)
      to (Reading.not-hex h k b e a) z = absurd (omega arith)
      to (Reading.done h k b e a) z = absurd (omega arith)

  pub read-gives-7 : (r ≡ 7) ↔ ((length out ≡ key_length) × (length cell ≡ cell_length → ⊥))
  read-gives-7 = (to (reading x), λ h. (read-unique x (read-7 h.0 h.1)).0)
    where
      to : Reading cell out r after → r ≡ 7 → (length out ≡ key_length) × (length cell ≡ cell_length → ⊥)
      to (Reading.wrong-out h e a) z = absurd (omega arith)
      to (Reading.wrong-cell h k e a) z = (h, k)
      to (Reading.not-hex h k b e a) z = absurd (omega arith)
      to (Reading.done h k b e a) z = absurd (omega arith)

  -- a character that is no hexadecimal digit, and its place
  pub read-gives-8 : (r ≡ 8) ↔ ((length out ≡ key_length) × (length cell ≡ cell_length) × Bad cell)
  read-gives-8 = (to (reading x), λ h. (read-unique x (read-8 h.0 h.1 (hex-bad cell h.2.place h.2.inside h.2.no_digit))).0)
    where
      to : Reading cell out r after → r ≡ 8 → (length out ≡ key_length) × (length cell ≡ cell_length) × Bad cell
      to (Reading.wrong-out h e a) z = absurd (omega arith)
      to (Reading.wrong-cell h k e a) z = absurd (omega arith)
      to (Reading.not-hex h k b e a) z = (h, k, bad-place cell b)
      to (Reading.done h k b e a) z = absurd (omega arith)

  pub read-gives-0 : (r ≡ 0) ↔ ((length out ≡ key_length) × (length cell ≡ cell_length) × (all_hex cell ≡ true))
  read-gives-0 = (to (reading x), λ h. (read-unique x (read-0 h.0 h.1 h.2 refl)).0)
    where
      to : Reading cell out r after → r ≡ 0 → (length out ≡ key_length) × (length cell ≡ cell_length) × (all_hex cell ≡ true)
      to (Reading.wrong-out h e a) z = absurd (omega arith)
      to (Reading.wrong-cell h k e a) z = absurd (omega arith)
      to (Reading.not-hex h k b e a) z = absurd (omega arith)
      to (Reading.done h k b e a) z = (h, k, b)

  -- the output: the bytes with number 0, untouched with any other
  pub read_done : r ≡ 0 → after ≡ read_bytes cell
  read_done z = let h = read-gives-0.0 z in (read-unique x (read-0 h.0 h.1 h.2 refl)).1

  pub read-refused : (r ≡ 0 → ⊥) → after ≡ out
  read-refused = go (reading x)
    where
      go : Reading cell out r after → (r ≡ 0 → ⊥) → after ≡ out
      go (Reading.wrong-out h e a) z = a
      go (Reading.wrong-cell h k e a) z = a
      go (Reading.not-hex h k b e a) z = a
      go (Reading.done h k b e a) z = absurd (z e)

module _ {key out after : List ℕ} {r : ℕ} (x : CellWritten key out r after) where
  pub write-gives-1 : (r ≡ 1) ↔ ((length key ≡ key_length) × (length out ≡ cell_length) → ⊥)
  write-gives-1 = (to (writing x), from (writing x))
    where
      to : Writing key out r after → r ≡ 1 → (length key ≡ key_length) × (length out ≡ cell_length) → ⊥
      to (Writing.wrong h e a) z = h
      to (Writing.written h k e a) z = absurd (omega arith)

      from : Writing key out r after → ((length key ≡ key_length) × (length out ≡ cell_length) → ⊥) → r ≡ 1
      from (Writing.wrong h e a) n = e
      from (Writing.written h k e a) n = absurd (n (h, k))

  pub write-gives-0 : (r ≡ 0) ↔ ((length key ≡ key_length) × (length out ≡ cell_length))
  write-gives-0 = (to (writing x), λ h. (write-unique x (write-0 h.0 h.1 refl)).0)
    where
      to : Writing key out r after → r ≡ 0 → (length key ≡ key_length) × (length out ≡ cell_length)
      to (Writing.wrong h e a) z = absurd (omega arith)
      to (Writing.written h k e a) z = (h, k)

  pub write_done : r ≡ 0 → after ≡ write_text key
  write_done z = let h = write-gives-0.0 z in (write-unique x (write-0 h.0 h.1 refl)).1

  pub write-refused : (r ≡ 0 → ⊥) → after ≡ out
  write-refused = go (writing x)
    where
      go : Writing key out r after → (r ≡ 0 → ⊥) → after ≡ out
      go (Writing.wrong h e a) z = a
      go (Writing.written h k e a) z = absurd (z e)

module _ (a b : List ℕ) {r : Bool} (x : r ≡ alike a b) where
  pub same-gives-true : (r ≡ true) ↔ (a ≡ b)
  same-gives-true = (λ e. alike-eq a b (sym x ∙ e), λ e. x ∙ alike_of a b e)

  pub same-gives-false : (r ≡ false) ↔ (a ≡ b → ⊥)
  same-gives-false = (λ e f. true≢false (sym (alike_of a b f) ∙ sym x ∙ e), λ n. x ∙ alike-ne a b n)

-- ---- reading what was written gives the key

pub round_trip : {key out cell out' key' : List ℕ} {r r' : ℕ} → Bytes key → length key ≡ key_length → length out ≡ cell_length → length out' ≡ key_length
    → CellWritten key out r cell → CellRead cell out' r' key' → (r ≡ 0) × (r' ≡ 0) × (key' ≡ key)
round_trip {key} {out} {cell} {out'} {key'} {r} {r'} f hk ho ho' w d =
    let z = (write-gives-0 w).1 (hk, ho) in
    let e : cell ≡ write_text key = write_done w z in
    let n : length cell ≡ cell_length = ap length e ∙ length-write_text key ∙ omega arith in
    let y = (read-gives-0 d).1 (ho', n, ap all_hex e ∙ write_text-hex key f) in
    (z, y, read_done d y ∙ ap read_bytes e ∙ read-write_text key f)

-- and writing what was read gives the cell, in lower case
pub round-trip-cell : {cell out key out' cell' : List ℕ} {r r' : ℕ} → length out' ≡ cell_length → CellRead cell out r key → r ≡ 0
    → CellWritten key out' r' cell' → (r' ≡ 0) × (cell' ≡ map lowered cell)
round-trip-cell {cell} ho d z w =
    let h = (read-gives-0 d).0 z in
    let hk = ap length (read_done d z) ∙ length-read_bytes key_length cell h.1 in
    let y = (write-gives-0 w).1 (hk, ho) in
    (y, write_done w y ∙ ap write_text (read_done d z) ∙ write-read_bytes key_length cell h.1 h.2)

-- the writer uses digits and a to f
pub write-plain : {key out cell : List ℕ} → Bytes key → CellWritten key out 0 cell → (i : ℕ) → i < length cell → plain (vec cell i) ≡ true
write-plain {key} f w i h =
    let e = write_done w refl in
    ap (λ (s : List ℕ). plain (vec s i)) e ∙ write_text-plain key f i (omega (arith, ap length e))

-- ---- the edges of a cell, with an output of 60 bytes

module _ {cell out after : List ℕ} {r : ℕ} (x : CellRead cell out r after) (ho : length out ≡ key_length) where
  pub read-other-length : (length cell ≡ cell_length → ⊥) → (r ≡ 7) × (after ≡ out)
  read-other-length h = read-unique x (read-7 ho h)

  -- a leading zero lost: never filled up
  pub read_short : length cell ≡ 119 → (r ≡ 7) × (after ≡ out)
  read_short h = read-other-length (λ e. omega arith)

  pub read-long : length cell ≡ 121 → (r ≡ 7) × (after ≡ out)
  read-long h = read-other-length (λ e. omega arith)

  pub read-empty : cell ≡ [] → (r ≡ 7) × (after ≡ out)
  read-empty e = let n : length cell ≡ 0 = ap length e in read-other-length (λ e. omega arith)

  pub read-bad : length cell ≡ cell_length → (i : ℕ) → i < cell_length → is_hex (vec cell i) ≡ false → (r ≡ 8) × (after ≡ out)
  read-bad h i l e = read-unique x (read-8 ho h (hex-bad cell i (omega arith) e))

  pub read-space-first : length cell ≡ cell_length → vec cell 0 ≡ 32 → (r ≡ 8) × (after ≡ out)
  read-space-first h e = read-bad h 0 (lit< tt) (ap is_hex e ∙ not-hex 32 (class-before 32 (lit< tt)))

  pub read-space-last : length cell ≡ cell_length → vec cell 119 ≡ 32 → (r ≡ 8) × (after ≡ out)
  read-space-last h e = read-bad h 119 (lit< tt) (ap is_hex e ∙ not-hex 32 (class-before 32 (lit< tt)))

  pub read-zeros : cell ≡ replicate cell_length 48 → (r ≡ 0) × (after ≡ replicate key_length 0)
  read-zeros e =
      let n : length cell ≡ cell_length = ap length e ∙ length-replicate {A = ℕ} cell_length 48 in
      let u = read-unique x (read-0 ho n (ap all_hex e ∙ all_hex-zeros cell_length) refl) in
      (u.0, u.1 ∙ read_bytes-zeros key_length cell e)

-- upper-case and lower-case digits read the same
pub read-lowered : {cell out after : List ℕ} {r : ℕ} → CellRead (map lowered cell) out r after → CellRead cell out r after
unfolding read_number read_output
read-lowered {cell} x =
    record {
      number = x.number ∙ simp (length-map, all_hex-lowered);
      output = x.output ∙ simp (length-map, all_hex-lowered, read_bytes-lowered);
    }

-- ---- answers that are ruled out

-- a short cell filled up
pub read-not-filled : {cell out after : List ℕ} → length cell ≡ 119 → CellRead cell out 0 after → ⊥
read-not-filled h x = let k = (read-gives-0 x).0 refl in omega (arith, k.1)

-- number 0 with the output left as it was
pub read-not-idle : {out : List ℕ} → vec out 0 ≡ 1 → CellRead (replicate cell_length 48) out 0 out → ⊥
read-not-idle {out} h x =
    let e : out ≡ replicate key_length 0 = (read-zeros x ((read-gives-0 x).0 refl).0 refl).1 in
    let z : vec out 0 ≡ 0 = ap (λ (s : List ℕ). vec s 0) e in
    omega arith

-- every cell refused
pub read-not-refusing : {out after : List ℕ} → length out ≡ key_length → CellRead (replicate cell_length 48) out 8 after → ⊥
read-not-refusing ho x = let e = (read-zeros x ho refl).0 in omega arith

write-first : {key out cell : List ℕ} → vec key 0 ≡ 0xab → CellWritten key out 0 cell → vec cell 0 ≡ 97
unfolding hex_char
write-first {key} h w =
    let l = (write-gives-0 w).0 refl in
    ap (λ (s : List ℕ). vec s 0) (write_done w refl) ∙ write_text-high 0 key (omega (arith, l.0)) ∙ ap (λ (b : ℕ). hex_char (b / 16)) h

-- the byte ab written as AB
pub write-not-upper : {key out cell : List ℕ} → vec key 0 ≡ 0xab → vec cell 0 ≡ 65 → CellWritten key out 0 cell → ⊥
write-not-upper h z w = let e = write-first h w in omega arith

-- the byte ab written as ba
pub write-not-swapped : {key out cell : List ℕ} → vec key 0 ≡ 0xab → vec cell 0 ≡ 98 → CellWritten key out 0 cell → ⊥
write-not-swapped h z w = let e = write-first h w in omega arith

-- number 0 with the output left as it was
pub write-not-idle : {key out : List ℕ} → vec key 0 ≡ 0xab → vec out 0 ≡ 0 → CellWritten key out 0 out → ⊥
write-not-idle h z w = let e = write-first h w in omega arith

-- yes of two texts that differ in case, and no of a text and itself
pub same-not-always : true ≡ alike (65 ∷ []) (97 ∷ []) → ⊥
unfolding alike
same-not-always e = true≢false e

pub same-not-never : (a : List ℕ) → false ≡ alike a a → ⊥
same-not-never a e = false≢true (e ∙ alike_of a a refl)
