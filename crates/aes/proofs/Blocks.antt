-- A block in a buffer: four columns read or stored make it. Assumes nothing.
use mathlib.Core.Path.{◌≡◌, refl, ap, ◌∙◌, sym}
use mathlib.Core.List.{List, [], ◌∷◌, ◌++◌}
use Prim.Native.Nat.{ℕ, ◌+◌, ◌≤◌}
use native.Mathlib.Nat.{add-zero, add_assoc}
use lib.ListN.{length, set}
use Rattle.octets.specs.Lists.{Bytes, vec, view, tab, part, bytes_of}
use Rattle.octets.specs.Place.{place}
use Rattle.octets.proofs.Bounds.{bytes-append, bytes-bytes_of}
use Rattle.octets.proofs.Tab.{is-tab}
use Rattle.octets.proofs.Part.{length_part, vec-part}
use Rattle.octets.proofs.Place.{place-extend}
use Rattle.octets.proofs.Frame.{part-add}
use Rattle.aes.specs.declared.Cols.{Cols}
use Rattle.aes.specs.Words.{block_of}
use Rattle.octets.proofs.Laid.{set-place}
use Rattle.aes.proofs.Words.{four}

pub length-block_of : (k : Cols) → length (block_of k) ≡ 16
unfolding block_of bytes_of
length-block_of k = refl

pub bytes-block_of : (k : Cols) → Bytes (block_of k)
unfolding block_of
bytes-block_of k =
    bytes-append _ _ (bytes-bytes_of 4 k.a) (bytes-append _ _ (bytes-bytes_of 4 k.b) (bytes-append _ _ (bytes-bytes_of 4 k.c) (bytes-bytes_of 4 k.d)))

pub parts : {p q r s p' q' r' s' : List ℕ} → p ≡ p' → q ≡ q' → r ≡ r' → s ≡ s' → p ++ (q ++ (r ++ s)) ≡ p' ++ (q' ++ (r' ++ s'))
parts e f g h = cc

-- ---- a column

pub word_read : (s : List ℕ) (p : ℕ) → p + 4 ≤ length s → part p 4 s ≡ vec s p ∷ vec s (p + 1) ∷ vec s (p + 2) ∷ vec s (p + 3) ∷ []
unfolding tab
word_read s p h =
    is-tab 4 (view s p) (part p 4 s) (length_part p 4 s h) (λ i hi. vec-part p 4 s i hi) ∙ four (ap (vec s) (add-zero p)) refl refl refl

pub word-stored : (s : List ℕ) (p a b c d : ℕ) → set (set (set (set s p a) (p + 1) b) (p + 2) c) (p + 3) d ≡ place p (a ∷ b ∷ c ∷ d ∷ []) s
word-stored s p a b c d =
    simp set-place
    (ap (λ (l : List ℕ). place (p + 3) (d ∷ []) (place (p + 2) (c ∷ []) l)) (place-extend p (a ∷ []) (b ∷ []) s (p + 1) refl)
    ∙ ap (place (p + 3) (d ∷ [])) (place-extend p (a ∷ b ∷ []) (c ∷ []) s (p + 2) refl)
    ∙ place-extend p (a ∷ b ∷ c ∷ []) (d ∷ []) s (p + 3) refl)

-- ---- a block

four-parts : (s : List ℕ) (p : ℕ) → part p 16 s ≡ part p 4 s ++ (part (p + 4) 4 s ++ (part (p + 8) 4 s ++ part (p + 12) 4 s))
four-parts s p =
    part-add p 4 12 s
    ∙ ap (λ (l : List ℕ). part p 4 s ++ l)
    (part-add (p + 4) 4 8 s
    ∙ ap (λ (o : ℕ). part (p + 4) 4 s ++ part o 8 s) (add_assoc p 4 4)
    ∙ ap (λ (l : List ℕ). part (p + 4) 4 s ++ l)
    (part-add (p + 8) 4 4 s ∙ ap (λ (o : ℕ). part (p + 8) 4 s ++ part o 4 s) (add_assoc p 8 4)))

pub block_read : (s : List ℕ) (p : ℕ) (k : Cols) → bytes_of 4 k.a ≡ part p 4 s → bytes_of 4 k.b ≡ part (p + 4) 4 s → bytes_of 4 k.c ≡ part (p + 8) 4 s
    → bytes_of 4 k.d ≡ part (p + 12) 4 s
    → block_of k ≡ part p 16 s
unfolding block_of
block_read s p k e f g h = parts e f g h ∙ sym (four-parts s p)

pub block-stored : (s : List ℕ) (p : ℕ) (k : Cols) {s1 s2 s3 s4 : List ℕ} → s1 ≡ place p (bytes_of 4 k.a) s → s2 ≡ place (p + 4) (bytes_of 4 k.b) s1
    → s3 ≡ place (p + 8) (bytes_of 4 k.c) s2
    → s4 ≡ place (p + 12) (bytes_of 4 k.d) s3
    → s4 ≡ place p (block_of k) s
unfolding block_of bytes_of
block-stored s p k {s1} {s2} {s3} {s4} e f g h =
    let a = bytes_of 4 k.a in
    let b = bytes_of 4 k.b in
    let c = bytes_of 4 k.c in
    let d = bytes_of 4 k.d in
    let e2 : s2 ≡ place p (a ++ b) s = f ∙ ap (place (p + 4) b) e ∙ place-extend p a b s (p + 4) refl in
    let e3 : s3 ≡ place p (a ++ b ++ c) s = g ∙ ap (place (p + 8) c) e2 ∙ place-extend p (a ++ b) c s (p + 8) refl in
    h ∙ ap (place (p + 12) d) e3 ∙ place-extend p (a ++ b ++ c) d s (p + 12) refl
