-- A loop that writes the list s into the buffer d from place a on, an element a turn: before turn i it holds `written d a s i`.
-- Assumes nothing.
use mathlib.Core.Path.{◌≡◌, sym, ap, ap₂, subst, ◌∙◌}
use mathlib.Core.List.{List, ◌++◌, append-nil}
use Prim.Native.Nat.{ℕ, ◌+◌, ◌<◌, ◌≤◌}
use native.Mathlib.Nat.{zero-add, add-zero}
use native.Mathlib.Numerals.{add-one}
use native.Mathlib.Omega.{arith}
use borrow.Author.Count.{below_more}
use lib.ListN.{length, set, drop_of_length-le}
use lib.Seq.{paste, paste-zero, paste-suc, drop-paste, get_or-drop, take_all, get_or-set_same, get_or-set_other}
use Rattle.octets.specs.Lists.{vec}
use lib.Bits.{bit_xor}
use Rattle.octets.specs.Xor.{◌⊕◌}
use Rattle.octets.proofs.Xor.{xor-is-⊕}

unfoldable pub written : List ℕ → ℕ → List ℕ → ℕ → List ℕ
written d a s i = paste d a s i

pub written_none : (d : List ℕ) (a : ℕ) (s : List ℕ) → d ≡ written d a s 0
unfolding written
written_none d a s = paste-zero d a s

-- what is not written yet
pub written_read : (d : List ℕ) (a : ℕ) (s : List ℕ) (i k : ℕ) → a + i ≤ length d → i ≤ length s → vec (written d a s i) (a + i + k) ≡ vec d (a + i + k)
unfolding written
written_read d a s i k hd hs =
    sym (get_or-drop (a + i) (paste d a s i) k 0) ∙ ap (λ (l : List ℕ). vec l k) (drop-paste d a s i (omega arith) hs) ∙ get_or-drop (a + i) d k 0

pub written-turn : (d : List ℕ) (a : ℕ) (s : List ℕ) (i : ℕ) {e : List ℕ} {x : ℕ} → a + i < length d → i < length s → e ≡ written d a s i → x ≡ vec s i
    → set e (a + i) x ≡ written d a s (i + 1)
unfolding written
written-turn d a s i {e} {x} hd hs p q =
    ap₂ (λ (l : List ℕ) (v : ℕ). set l (a + i) v) p q ∙ paste-suc d a s i 0 hd hs ∙ ap (paste d a s) (sym (add-one i))

-- the same from place 0 on

pub fill-read : (d s : List ℕ) (i k : ℕ) → i ≤ length d → i ≤ length s → vec (written d 0 s i) (i + k) ≡ vec d (i + k)
fill-read d s i k hd hs =
    subst (λ (m : ℕ). vec (written d 0 s i) (m + k) ≡ vec d (m + k)) (zero-add i) (written_read d 0 s i k (omega arith) hs)

pub fill-turn : (d s : List ℕ) (i : ℕ) {e : List ℕ} {x : ℕ} → i < length d → i < length s → e ≡ written d 0 s i → x ≡ vec s i
    → set e i x ≡ written d 0 s (i + 1)
fill-turn d s i {e} {x} hd hs p q =
    subst (λ (k : ℕ). set e k x ≡ written d 0 s (i + 1)) (zero-add i) (written-turn d 0 s i (omega arith) hs p q)

pub fill_end : (d s : List ℕ) (i : ℕ) {e : List ℕ} → length d ≡ length s → length d ≤ i → e ≡ written d 0 s i → e ≡ s
unfolding written
fill_end d s i l h p = p ∙ ap₂ ◌++◌ (take_all i s (omega arith)) (drop_of_length-le d {i = 0 + i} (omega arith)) ∙ append-nil s

-- a loop that stores an element a turn, where each is known by a fact about it
pub set_more : (P : ℕ → ℕ → Type 0) (t : List ℕ) (m v : ℕ) → m < length t → ((j : ℕ) → j < m → P j (vec t j)) → P m v
    → (j : ℕ) → j < m + 1 → P j (vec (set t m v) j)
set_more P t m v h all here =
    below_more (λ (j : ℕ). P j (vec (set t m v) j)) m
    (λ j l. subst (λ (x : ℕ). P j x) (sym (get_or-set_other t m j v 0 (λ e. omega arith))) (all j l))
    (subst (λ (x : ℕ). P m x) (sym (get_or-set_same t m v 0 h)) here)

-- before turn i the buffer d holds the first i elements of s, and what is added at i makes the next one
pub add_turn : (d s : List ℕ) (i x : ℕ) {e : List ℕ} → i < length d → i < length s → e ≡ written d 0 s i → vec s i ≡ vec d i ⊕ x
    → set e i (bit_xor (vec e i) x) ≡ written d 0 s (i + 1)
add_turn d s i x {e} hd hs p q =
    fill-turn d s i hd hs p (xor-is-⊕ (vec e i) x ∙ ap (λ (v : ℕ). v ⊕ x) (ap (λ (l : List ℕ). vec l i) p ∙ unwritten) ∙ sym q)
  where
    unwritten : vec (written d 0 s i) i ≡ vec d i
    unwritten =
        subst (λ (k : ℕ). vec (written d 0 s i) k ≡ vec d k) (add-zero i) (fill-read d s i 0 (omega arith) (omega arith))
