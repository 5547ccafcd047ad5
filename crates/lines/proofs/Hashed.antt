-- What Hash_6 is given: the loop that writes it, and the hidden leaf's commitment put among the others. Assumes nothing.
use Rattle.std.proofs.Common.{◌≡◌, ℕ, zero, suc, ◌+◌, ◌*◌, ◌<◌, ◌≤◌, List, [], ◌∷◌, ◌++◌, length, cond, eqb, refl, sym, ap, ap₂, ◌∙◌, arith, zero-add, suc-add}
use Rattle.std.proofs.lemmas.Bool.Decides.{nat_tests}
use Rattle.std.specs.Prelude.{slice_set}
use Rattle.octets.specs.Lists.{joined}
use Rattle.octets.specs.Place.{over, place}
use Rattle.octets.proofs.Part.{length_part, length-joined, joined-ext}
use Rattle.octets.proofs.Place.{place-whole, place-turn}
use Rattle.paper.specs.Symmetric.{selector, for_leaves}
use Rattle.lines.specs.Standing.{leaf_at, coms_by, coms_with, hashed_of}
use Rattle.lines.proofs.Leaf.{length-com_by}

-- the commitments, one after the other
module _ (keys leaves : List ℕ) (hk : length keys ≡ 2112) (hl : length leaves ≡ 4096) where
  abbrev coms : ℕ → List ℕ
  coms = coms_by keys leaves

  length-com : (k : ℕ) → k < 256 → length (coms k) ≡ 32
  unfolding leaf_at
  length-com k h = length-com_by keys (leaf_at leaves k) hk (length_part (16 * k) 16 leaves (omega arith))

  pub hashed-turn : (i : ℕ) (c h next start : List ℕ) → i < 256 → c ≡ coms i → next ≡ place (1 + 32 * i) c h → h ≡ place 1 (joined i coms) start
      → next ≡ place 1 (joined (i + 1) coms) start
  hashed-turn i c h next start hi ec en eh =
      en ∙ ap₂ (place (1 + 32 * i)) ec eh
      ∙ place-turn 1 coms i start (1 + 32 * i) (omega (arith, length-joined i 32 coms (λ k hk. length-com k (omega arith))))
      ∙ ap (λ (n : ℕ). place 1 (joined n coms) start) (omega arith)

  pub hashed-end : (i v : ℕ) (h s : List ℕ) → i ≤ 256 → 256 ≤ i → length s ≡ 8193 → v ≡ selector for_leaves → h ≡ place 1 (joined i coms) (slice_set s 0 v)
      → h ≡ hashed_of coms
  unfolding hashed_of place
  hashed-end i v h [] hi hi' hs e eh = absurd (omega arith)
  hashed-end i v h (c ∷ s) hi hi' hs e eh =
      eh ∙ ap (λ (n : ℕ). place 1 (joined n coms) (v ∷ s)) all
      ∙ ap₂ ◌∷◌ e (place-whole (joined 256 coms) s (length-joined 256 32 coms length-com ∙ omega arith))
    where
      all : i ≡ 256
      all = omega arith

-- one of n parts that are k long with another in its place
over-front : (x a s : List ℕ) → length x ≡ length a → over x (a ++ s) ≡ x ++ s
unfolding over
over-front [] [] s h = refl
over-front [] (c ∷ a) s h = absurd (omega arith)
over-front (x ∷ xs) [] s h = absurd (omega arith)
over-front (x ∷ xs) (c ∷ a) s h = ap (λ (l : List ℕ). x ∷ l) (over-front xs a s (omega arith))

place-behind : (a x s : List ℕ) (m : ℕ) → place (length a + m) x (a ++ s) ≡ a ++ place m x s
unfolding place
place-behind [] x s m = rw zero-add refl
place-behind (c ∷ a) x s m = rw suc-add (ap (λ (l : List ℕ). c ∷ l) (place-behind a x s m))

place-joined : (n k i : ℕ) (f g : ℕ → List ℕ) (x : List ℕ) → ((e : ℕ) → e < n → length (f e) ≡ k) → length x ≡ k → i < n
    → g i ≡ x → ((e : ℕ) → (e ≡ i → ⊥) → g e ≡ f e) → place (k * i) x (joined n f) ≡ joined n g
unfolding joined place
place-joined zero k i f g x h hx hi here other = absurd (omega arith)
place-joined (suc n) k zero f g x h hx hi here other =
    ap (λ (o : ℕ). place o x (f 0 ++ joined n (λ e. f (suc e)))) none ∙ over-front x (f 0) _ (hx ∙ sym (h 0 (omega arith)))
    ∙ ap₂ ◌++◌ (sym here) (joined-ext n (λ e. f (suc e)) (λ e. g (suc e)) (λ e he. sym (other (suc e) (λ q. omega arith))))
  where
    none : k * 0 ≡ 0
    none = omega arith
place-joined (suc n) k (suc i) f g x h hx hi here other =
    ap (λ (o : ℕ). place o x (f 0 ++ joined n (λ e. f (suc e)))) there ∙ place-behind (f 0) x _ (k * i)
    ∙ ap₂ ◌++◌ (sym (other 0 (λ q. omega arith)))
    (place-joined n k i (λ e. f (suc e)) (λ e. g (suc e)) x (λ e he. h (suc e) (omega arith)) hx (omega arith) here
    (λ e q. other (suc e) (λ r. q (omega arith))))
  where
    there : k * suc i ≡ length (f 0) + k * i
    there = omega (arith, h 0 (omega arith))

if-same : (i : ℕ) (x y : List ℕ) → cond (eqb i i) x y ≡ x
if-same i x y = grind (arith, nat_tests)

if-other : (e i : ℕ) (x y : List ℕ) → (e ≡ i → ⊥) → cond (eqb e i) x y ≡ y
if-other e i x y h = grind (arith, nat_tests)

-- the hidden leaf's commitment among the others
pub hashed-hidden : (keys leaves : List ℕ) (i : ℕ) (out h next : List ℕ) → length keys ≡ 2112 → length leaves ≡ 4096 → i < 256 → length out ≡ 32
    → h ≡ hashed_of (coms_by keys leaves) → next ≡ place (1 + 32 * i) out h → next ≡ hashed_of (coms_with keys leaves i out)
unfolding hashed_of place
hashed-hidden keys leaves i out h next hk hl hi ho eh en =
    en ∙ ap₂ (λ (o : ℕ) (s : List ℕ). place o out s) there eh
    ∙ ap (λ (l : List ℕ). selector for_leaves ∷ l)
    (place-joined 256 32 i (coms_by keys leaves) (coms_with keys leaves i out) out (length-com keys leaves hk hl) ho hi
    (if-same i out _) (λ e q. if-other e i out _ q))
  where
    there : 1 + 32 * i ≡ suc (32 * i)
    there = omega arith
