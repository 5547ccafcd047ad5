-- What the code holds after a message: with more bytes after it, below the end of a block or up to it, and with the padding.
-- Assumes nothing.
use mathlib.Core.Path.{◌≡◌, refl, sym, ap, ap₂, ◌∙◌}
use mathlib.Core.List.{List, [], ◌∷◌, ◌++◌, append_assoc}
use Prim.Native.Nat.{ℕ, zero, suc, ◌+◌, ◌-◌, ◌*◌, ◌/◌, ◌%◌, ◌^◌, ◌<◌, ◌≤◌}
use native.Mathlib.Numerals.{add-one}
use native.Mathlib.Omega.{arith}
use Rattle.std.proofs.lemmas.List.{append-nil, take-append-drop, length-take-le}
use lib.ListN.{length, take, drop, replicate, length-append, length-drop, length-replicate, drop_of_length-le}
use lib.Seq.{take_all, take-append-le, drop-append-le, drop-drop}
use Rattle.octets.specs.Xor.{◌⊕◌}
use Rattle.shake.specs.Keccak.{keccak_f}
use Rattle.shake.specs.Shake.{xor_lane, xor_byte, xor_bytes, absorb_blocks, padding, zeros, absorbed}
use Rattle.shake.specs.Held.{sponge, fed, PutSome}
use Rattle.shake.specs.declared.Sponge.{Sponge}
use Rattle.shake.proofs.Lanes.{xor_lane-twice, xor_bytes-append, xor_bytes-zeros}

-- ---- blocks

-- n blocks read the first 168 n bytes alone
absorb-front : (n : ℕ) (p q a : List ℕ) → 168 * n ≤ length p → absorb_blocks n (p ++ q) a ≡ absorb_blocks n p a
unfolding absorb_blocks
absorb-front zero p q a h = refl
absorb-front (suc n) p q a h =
    let k : 168 ≤ length p = omega arith in
    let l : 168 * n ≤ length (drop 168 p) = omega (arith, length-drop 168 p) in
    ap₂ (λ (x y : List ℕ). absorb_blocks n x (keccak_f (xor_bytes a 0 y))) (drop-append-le 168 p q k) (take-append-le 168 p q k)
    ∙ absorb-front n (drop 168 p) q (keccak_f (xor_bytes a 0 (take 168 p))) l

-- the last of n + 1 blocks
absorb-last : (n : ℕ) (p a : List ℕ) → absorb_blocks (suc n) p a ≡ keccak_f (xor_bytes (absorb_blocks n p a) 0 (take 168 (drop (168 * n) p)))
unfolding absorb_blocks
absorb-last zero p a = refl
absorb-last (suc n) p a =
    absorb-last n (drop 168 p) (keccak_f (xor_bytes a 0 (take 168 p)))
    ∙ ap (λ (l : List ℕ). keccak_f (xor_bytes (absorb_blocks n (drop 168 p) (keccak_f (xor_bytes a 0 (take 168 p)))) 0 (take 168 l)))
    (drop-drop (168 * n) 168 p ∙ ap (λ (k : ℕ). drop k p) (more n))
  where
    more : (n : ℕ) → 168 + 168 * n ≡ 168 * suc n
    more n = omega arith

-- the state after n whole blocks of m, with what follows them added
abbrev lanes : ℕ → List ℕ → List ℕ
lanes n m = xor_bytes (absorb_blocks n m zeros) 0 (drop (168 * n) m)

lanes-more : (n : ℕ) (m q : List ℕ) → 168 * n ≤ length m → lanes n (m ++ q) ≡ xor_bytes (lanes n m) (length m - 168 * n) q
lanes-more n m q h =
    ap₂ (λ (x y : List ℕ). xor_bytes x 0 y) (absorb-front n m q zeros h) (drop-append-le (168 * n) m q h)
    ∙ xor_bytes-append (drop (168 * n) m) q (absorb_blocks n m zeros) 0
    ∙ ap (λ (k : ℕ). xor_bytes (lanes n m) k q) (omega (arith, length-drop (168 * n) m))

-- q makes the next block whole
lanes-full : (n : ℕ) (m q : List ℕ) → 168 * n ≤ length m → length m + length q ≡ 168 * n + 168
    → absorb_blocks (suc n) (m ++ q) zeros ≡ keccak_f (xor_bytes (lanes n m) (length m - 168 * n) q)
lanes-full n m q h e =
    absorb-last n (m ++ q) zeros
    ∙ ap (λ (l : List ℕ). keccak_f (xor_bytes (absorb_blocks n (m ++ q) zeros) 0 l)) (take_all 168 (drop (168 * n) (m ++ q)) short)
    ∙ ap keccak_f (lanes-more n m q h)
  where
    short : length (drop (168 * n) (m ++ q)) ≤ 168
    short = omega (arith, length-drop (168 * n) (m ++ q), length-append m q)

-- ---- more bytes

module _ (m q : List ℕ) where
  at : length m % 168 ≡ length m - 168 * (length m / 168)
  at = omega arith

  fed-below : length m % 168 + length q < 168 → sponge (xor_bytes (fed m).lanes (fed m).at q) ((fed m).at + length q) ≡ fed (m ++ q)
  unfolding fed
  fed-below h =
      ap₂ sponge
      (ap (λ (k : ℕ). xor_bytes (lanes (length m / 168) m) k q) at
      ∙ sym (lanes-more (length m / 168) m q (omega arith))
      ∙ ap (λ (k : ℕ). lanes k (m ++ q)) same)
      (omega (arith, length-append m q))
    where
      same : length m / 168 ≡ length (m ++ q) / 168
      same = omega (arith, length-append m q)

  fed-full : length m % 168 + length q ≡ 168 → sponge (keccak_f (xor_bytes (fed m).lanes (fed m).at q)) 0 ≡ fed (m ++ q)
  unfolding fed xor_bytes
  fed-full h =
      ap₂ sponge
      (ap (λ (k : ℕ). keccak_f (xor_bytes (lanes (length m / 168) m) k q)) at
      ∙ sym (lanes-full (length m / 168) m q (omega arith) (omega arith))
      ∙ sym (ap (xor_bytes (absorb_blocks (suc (length m / 168)) (m ++ q) zeros) 0) (drop_of_length-le (m ++ q) past))
      ∙ ap (λ (k : ℕ). lanes k (m ++ q)) next)
      (omega (arith, length-append m q))
    where
      past : length (m ++ q) ≤ 168 * suc (length m / 168)
      past = omega (arith, length-append m q)

      next : suc (length m / 168) ≡ length (m ++ q) / 168
      next = omega (arith, length-append m q)

-- ---- a turn of the loop that absorbs

pub fed-at : (m : List ℕ) → (fed m).at ≡ length m % 168
unfolding fed
fed-at m = refl

-- the place in the block is below 168, so it is its own rest
pub held : (m : List ℕ) {s : Sponge} → s ≡ fed m → sponge s.lanes (s.at % 168) ≡ fed m
held m {s} e = ap (λ (t : Sponge). sponge t.lanes (t.at % 168)) e ∙ ap (sponge (fed m).lanes) own
  where
    own : (fed m).at % 168 ≡ (fed m).at
    own = omega (arith, fed-at m)

-- the sponge was fed the front of the whole, and the rest comes next
pub record Reached (s : Sponge) (rest whole : List ℕ) : Type 0 where
  pub done : List ℕ
  pub holds : s ≡ fed done
  pub joined : done ++ rest ≡ whole

pub reached-is : {s t : Sponge} {rest whole : List ℕ} → t ≡ s → Reached s rest whole → Reached t rest whole
reached-is e r = record { done = r.done; holds = e ∙ r.holds; joined = r.joined }

pub reached-end : {s : Sponge} {rest whole : List ℕ} → Reached s rest whole → length rest ≡ 0 → s ≡ fed whole
reached-end {rest = []} r e = r.holds ∙ ap fed (sym (append-nil r.done) ∙ r.joined)
reached-end {rest = b ∷ p} r e = absurd (omega arith)

module _ {a a' p w : List ℕ} {j n : ℕ} (q : PutSome a j p n a') (r : Reached (sponge a j) p w) where
  size : length (take n p) ≡ n
  size = length-take-le n p q.have

  -- what is left, as the code cuts it off
  left : take (length p - n) (drop n p) ≡ drop n p
  left = take_all (length p - n) (drop n p) (omega (arith, length-drop n p))

  next : (r.done ++ take n p) ++ take (length p - n) (drop n p) ≡ w
  next = append_assoc r.done (take n p) _ ∙ ap (λ (l : List ℕ). r.done ++ l) (ap (λ (l : List ℕ). take n p ++ l) left ∙ take-append-drop n p) ∙ r.joined

  at_rest : j ≡ length r.done % 168
  at_rest = ap (λ (s : Sponge). s.at) r.holds ∙ fed-at r.done

  pub reached-next : j + n < 168 → Reached (sponge a' (j + n)) (take (length p - n) (drop n p)) w
  reached-next h = record {
    done = r.done ++ take n p;
    holds =
        ap₂ sponge q.put (ap (λ (k : ℕ). j + k) (sym size))
        ∙ ap (λ (s : Sponge). sponge (xor_bytes s.lanes s.at (take n p)) (s.at + length (take n p))) r.holds
        ∙ fed-below r.done (take n p) (omega (arith, size, at_rest));
    joined = next;
  }

  pub reached-turn : j + n ≡ 168 → Reached (sponge (keccak_f a') 0) (take (length p - n) (drop n p)) w
  reached-turn h = record {
    done = r.done ++ take n p;
    holds =
        ap (λ (x : List ℕ). sponge (keccak_f x) 0) q.put
        ∙ ap (λ (s : Sponge). sponge (keccak_f (xor_bytes s.lanes s.at (take n p))) 0) r.holds
        ∙ fed-full r.done (take n p) (omega (arith, size, at_rest));
    joined = next;
  }

-- ---- the padding

both_ends : (0x1f * 2 ^ 56) ⊕ (0x80 * 2 ^ 56) ≡ 0x9f * 2 ^ 56
unfolding ◌⊕◌
both_ends = refl

pad-put : (q r : ℕ) (a : List ℕ) → 0 < q → r + q ≡ 168 → xor_bytes a r (padding q) ≡ xor_byte (xor_byte a r 0x1f) 167 0x80
unfolding padding xor_bytes
pad-put zero r a h e = absurd (omega arith)
pad-put (suc zero) r a h e =
    ap (λ (k : ℕ). xor_byte a k 0x9f) at
    ∙ sym (xor_lane-twice a 20 (0x1f * 2 ^ 56) (0x80 * 2 ^ 56) ∙ ap (xor_lane a 20) both_ends)
    ∙ ap (λ (k : ℕ). xor_byte (xor_byte a k 0x1f) 167 0x80) (sym at)
  where
    at : r ≡ 167
    at = omega arith
pad-put (suc (suc q)) r a h e =
    xor_bytes-append (replicate q 0) (0x80 ∷ []) (xor_byte a r 0x1f) (suc r)
    ∙ ap₂ (λ (x : List ℕ) (k : ℕ). xor_byte x k 0x80) (xor_bytes-zeros q (xor_byte a r 0x1f) (suc r)) last
  where
    last : suc r + length (replicate {A = ℕ} q 0) ≡ 167
    last = omega (arith, length-replicate {A = ℕ} q 0)

length-padding : (q : ℕ) → length (padding q) ≡ q
unfolding padding
length-padding zero = refl
length-padding (suc zero) = refl
length-padding (suc (suc q)) = ap suc (length-append (replicate q 0) (0x80 ∷ []) ∙ omega (arith, length-replicate {A = ℕ} q 0))

pub finish-fed : (m : List ℕ) → keccak_f (xor_byte (xor_byte (fed m).lanes (fed m).at 0x1f) 167 0x80) ≡ absorbed m
unfolding fed absorbed
finish-fed m = sym
    (ap (λ (k : ℕ). absorb_blocks k (m ++ padding (168 - length m % 168)) zeros) (add-one (length m / 168))
    ∙ lanes-full (length m / 168) m (padding (168 - length m % 168)) (omega arith) (omega (arith, length-padding (168 - length m % 168)))
    ∙ ap (λ (k : ℕ). keccak_f (xor_bytes (lanes (length m / 168) m) k (padding (168 - length m % 168)))) at
    ∙ ap keccak_f (pad-put (168 - length m % 168) (length m % 168) (lanes (length m / 168) m) (omega arith) (omega arith)))
  where
    at : length m - 168 * (length m / 168) ≡ length m % 168
    at = omega arith
