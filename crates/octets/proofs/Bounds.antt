-- What is made of bytes is made of bytes. Assumes nothing.
use mathlib.Core.List.{List, [], ◌∷◌, ◌++◌}
use Prim.Native.Nat.{ℕ, zero, suc, ◌/◌, ◌<◌}
use native.Mathlib.Nat.{mod-lt}
use native.Mathlib.Omega.{arith}
use lib.Dec.{lit<}
use lib.ListN.{length, take, drop, set, replicate}
use Rattle.octets.specs.Xor.{xor_b}
use Rattle.octets.specs.Lists.{Bytes, vec, tab, part, joined, bytes_of, zero16}
use Rattle.octets.proofs.Xor.{⊕-byte}

pub bytes-append : (a b : List ℕ) → Bytes a → Bytes b → Bytes (a ++ b)
unfolding Bytes
bytes-append [] b p q = q
bytes-append (x ∷ a) b p q = (p.0, bytes-append a b p.1 q)

pub bytes_take : (n : ℕ) (a : List ℕ) → Bytes a → Bytes (take n a)
unfolding Bytes
bytes_take zero a p = tt
bytes_take (suc n) [] p = tt
bytes_take (suc n) (x ∷ a) p = (p.0, bytes_take n a p.1)

pub bytes_drop : (n : ℕ) (a : List ℕ) → Bytes a → Bytes (drop n a)
unfolding Bytes
bytes_drop zero a p = p
bytes_drop (suc n) [] p = tt
bytes_drop (suc n) (x ∷ a) p = bytes_drop n a p.1

pub bytes-at : (a : List ℕ) → Bytes a → (i : ℕ) → vec a i < 256
unfolding Bytes
bytes-at [] p i = lit< tt
bytes-at (x ∷ a) p zero = p.0
bytes-at (x ∷ a) p (suc i) = bytes-at a p.1 i

pub bytes-part : (o n : ℕ) (l : List ℕ) → Bytes l → Bytes (part o n l)
unfolding part
bytes-part o n l p = bytes_take n (drop o l) (bytes_drop o l p)

pub bytes-joined : (n : ℕ) (f : ℕ → List ℕ) → ((i : ℕ) → i < n → Bytes (f i)) → Bytes (joined n f)
unfolding joined Bytes
bytes-joined zero f h = tt
bytes-joined (suc n) f h = bytes-append (f 0) _ (h 0 (omega arith)) (bytes-joined n (λ i. f (suc i)) (λ i hi. h (suc i) (omega arith)))

pub bytes-bytes_of : (n t : ℕ) → Bytes (bytes_of n t)
unfolding bytes_of Bytes
bytes-bytes_of zero t = tt
bytes-bytes_of (suc n) t = (mod-lt t (lit< tt), bytes-bytes_of n (t / 256))

pub bytes-zero16 : Bytes zero16
unfolding Bytes
bytes-zero16 = omega arith

pub bytes-xor_b : (a b : List ℕ) → Bytes a → Bytes b → Bytes (xor_b a b)
unfolding xor_b Bytes
bytes-xor_b [] b p q = tt
bytes-xor_b (x ∷ a) [] p q = tt
bytes-xor_b (x ∷ a) (y ∷ b) p q = (⊕-byte p.0 q.0, bytes-xor_b a b p.1 q.1)

pub bytes-tab : (n : ℕ) (f : ℕ → ℕ) → ((i : ℕ) → i < n → f i < 256) → Bytes (tab n f)
unfolding Bytes tab
bytes-tab zero f h = tt
bytes-tab (suc n) f h = (h 0 (omega arith), bytes-tab n (λ i. f (suc i)) (λ i hi. h (suc i) (omega arith)))

-- by its elements
pub bytes-of : (a : List ℕ) → ((i : ℕ) → i < length a → vec a i < 256) → Bytes a
unfolding Bytes
bytes-of [] h = tt
bytes-of (x ∷ a) h = (h 0 (omega arith), bytes-of a (λ i hi. h (suc i) (omega arith)))

pub bytes-set : (l : List ℕ) (i v : ℕ) → Bytes l → v < 256 → Bytes (set l i v)
unfolding Bytes
bytes-set [] i v p h = tt
bytes-set (x ∷ l) zero v p h = (h, p.1)
bytes-set (x ∷ l) (suc i) v p h = (p.0, bytes-set l i v p.1 h)

pub bytes-replicate : (n v : ℕ) → v < 256 → Bytes (replicate n v)
unfolding Bytes
bytes-replicate zero v h = tt
bytes-replicate (suc n) v h = (h, bytes-replicate n v h)
