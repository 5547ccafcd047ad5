-- Parse undoes Serialize: the laws of `part`, `joined`, `flat` and `bytes_of`. Assumes nothing.
use mathlib.Core.Path.{◌≡◌, refl, sym, ap, ap₂, ◌∙◌}
use mathlib.Core.List.{List, [], ◌∷◌, ◌++◌, append-nil, append_assoc}
use Prim.Native.Nat.{ℕ, zero, suc, ◌+◌, ◌*◌, ◌/◌, ◌<◌, ◌≤◌}
use native.Mathlib.Omega.{arith}
use lib.ListN.{length, take, drop, length-append, length-take, length-drop}
use lib.Seq.{take_at, drop_at, drop-drop, get_or-take, get_or-drop, take_all}
use Rattle.octets.specs.Lists.{vec, part, flat, joined, bytes_of}

-- ---- parts

pub part-here : (n : ℕ) (a b : List ℕ) → length a ≡ n → part 0 n (a ++ b) ≡ a
unfolding part
part-here n a b h = take_at a b n h

pub part-all : (n : ℕ) (a : List ℕ) → length a ≡ n → part 0 n a ≡ a
unfolding part
part-all n a h = take_all n a (omega arith)

pub part-skip : (k o n : ℕ) (a b : List ℕ) → length a ≡ k → part (k + o) n (a ++ b) ≡ part o n b
unfolding part
part-skip k o n a b h = ap (take n) (sym (drop-drop o k (a ++ b)) ∙ ap (drop o) (drop_at a b k h))

pub length_part : (o n : ℕ) (l : List ℕ) → o + n ≤ length l → length (part o n l) ≡ n
unfolding part
length_part o n l h = simp (length-take, length-drop) (omega arith)

pub vec-part : (o n : ℕ) (l : List ℕ) (i : ℕ) → i < n → vec (part o n l) i ≡ vec l (o + i)
unfolding part
vec-part o n l i h = get_or-take n (drop o l) i 0 h ∙ get_or-drop o l i 0

-- ---- lists laid end to end

pub length-joined : (n k : ℕ) (f : ℕ → List ℕ) → ((i : ℕ) → i < n → length (f i) ≡ k) → length (joined n f) ≡ n * k
unfolding joined
length-joined zero k f h = omega arith
length-joined (suc n) k f h =
    length-append (f 0) (joined n (λ i. f (suc i)))
    ∙ ap₂ ◌+◌ (h 0 (omega arith)) (length-joined n k (λ i. f (suc i)) (λ i hi. h (suc i) (omega arith)))
    ∙ omega arith

pub part-joined : (n k : ℕ) (f : ℕ → List ℕ) → ((i : ℕ) → i < n → length (f i) ≡ k) → (e : ℕ) → e < n → part (k * e) k (joined n f) ≡ f e
unfolding joined
part-joined zero k f h e he = absurd (omega arith)
part-joined (suc n) k f h zero he =
    ap (λ (o : ℕ). part o k (f 0 ++ joined n (λ i. f (suc i)))) (omega arith) ∙ part-here k (f 0) (joined n (λ i. f (suc i))) (h 0 (omega arith))
part-joined (suc n) k f h (suc e) he =
    ap (λ (o : ℕ). part o k (f 0 ++ joined n (λ i. f (suc i)))) (omega arith)
    ∙ part-skip k (k * e) k (f 0) (joined n (λ i. f (suc i))) (h 0 (omega arith))
    ∙ part-joined n k (λ i. f (suc i)) (λ i hi. h (suc i) (omega arith)) e (omega arith)

pub joined-ext : (n : ℕ) (f g : ℕ → List ℕ) → ((i : ℕ) → i < n → f i ≡ g i) → joined n f ≡ joined n g
unfolding joined
joined-ext zero f g h = refl
joined-ext (suc n) f g h = ap₂ ◌++◌ (h 0 (omega arith)) (joined-ext n (λ i. f (suc i)) (λ i. g (suc i)) (λ i hi. h (suc i) (omega arith)))

pub length-bytes_of : (n t : ℕ) → length (bytes_of n t) ≡ n
unfolding bytes_of
length-bytes_of zero t = refl
length-bytes_of (suc n) t = ap suc (length-bytes_of n (t / 256))

pub flat_append : (a b : List (List ℕ)) → flat (a ++ b) ≡ flat a ++ flat b
unfolding flat
flat_append [] b = refl
flat_append (s ∷ a) b = ap (λ (l : List ℕ). s ++ l) (flat_append a b) ∙ sym (append_assoc s (flat a) (flat b))

pub flat-one : (s : List ℕ) → flat (s ∷ []) ≡ s
unfolding flat
flat-one s = append-nil s

pub joined-suc : (n : ℕ) (f : ℕ → List ℕ) → joined (suc n) f ≡ joined n f ++ f n
unfolding joined
joined-suc zero f = append-nil (f 0)
joined-suc (suc n) f = ap (λ (l : List ℕ). f 0 ++ l) (joined-suc n (λ i. f (suc i))) ∙ sym (append_assoc (f 0) (joined n (λ i. f (suc i))) (f (suc n)))
