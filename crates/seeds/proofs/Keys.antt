-- Expanded keys that lie end to end: where each is found, what each of a tree's twelve is, and a loop that writes them. Assumes nothing.
use mathlib.Core.Path.{◌≡◌, refl, ap, ap₂, sym, subst, ◌∙◌}
use mathlib.Core.List.{List, [], ◌∷◌}
use Prim.Native.Nat.{ℕ, zero, suc, ◌+◌, ◌-◌, ◌*◌, ◌<◌, ◌≤◌}
use native.Mathlib.Omega.{arith}
use lib.Dec.{lit<}
use lib.ListN.{length, get_or}
use Rattle.std.proofs.lemmas.List.{get_or-map}
use Rattle.octets.specs.Lists.{vec, part, joined, zero16}
use Rattle.octets.specs.Place.{place}
use Rattle.octets.proofs.Part.{part-all, part-joined, length-joined}
use Rattle.octets.proofs.Frame.{part-turn}
use Rattle.aes.specs.Cipher.{expand_key}
use Rattle.aes.proofs.Bounds.{length-expand_key}
use Rattle.paper.specs.Symmetric.{tweak_salt, derive, commit_first, commit_second, expand}
use Rattle.seeds.specs.declared.Purpose.{Purpose}
use Rattle.seeds.specs.declared.Purpose.TheVariants.{Derive, CommitFirst, CommitSecond, Expand}
use Rattle.seeds.specs.Purpose.{place_of}
use Rattle.seeds.specs.Expanded.{key_at, plain_keys, tree_purposes, tree_layers, tree_key, tree_keys}

-- ---- PRG for salt 0 and e 0

abbrev pub plain_key : ℕ → List ℕ
plain_key i = expand_key (tweak_salt zero16 expand 0 i)

pub length-plain_keys : length plain_keys ≡ 18304
unfolding plain_keys
length-plain_keys = length-joined 104 176 plain_key (λ i h. length-expand_key _)

pub key-at-plain : (i : ℕ) → i < 104 → key_at plain_keys i ≡ expand_key (tweak_salt zero16 expand 0 i)
unfolding key_at plain_keys
key-at-plain i h = part-joined 104 176 plain_key (λ j l. length-expand_key _) i h

-- ---- a tree

pub length-tree_key : (salt : List ℕ) (e k : ℕ) → length (tree_key salt e k) ≡ 176
unfolding tree_key
length-tree_key salt e k = length-expand_key _

pub length-tree_keys : (salt : List ℕ) (e : ℕ) → length (tree_keys salt e) ≡ 2112
unfolding tree_keys
length-tree_keys salt e = length-joined 12 176 (tree_key salt e) (λ k h. length-tree_key salt e k)

pub key-at-tree : (salt : List ℕ) (e k : ℕ) → k < 12 → key_at (tree_keys salt e) k ≡ tree_key salt e k
unfolding key_at tree_keys
key-at-tree salt e k h = part-joined 12 176 (tree_key salt e) (λ i l. length-tree_key salt e i) k h

-- what each of the twelve is

pub derive-key : (salt : List ℕ) (e j : ℕ) → 1 ≤ j → j < 8 → tree_key salt e (j - 1) ≡ expand_key (tweak_salt salt derive e j)
unfolding tree_key tree_purposes tree_layers
derive-key salt e zero h l = absurd (omega arith)
derive-key salt e (suc zero) h l = refl
derive-key salt e (suc (suc zero)) h l = refl
derive-key salt e (suc (suc (suc zero))) h l = refl
derive-key salt e (suc (suc (suc (suc zero)))) h l = refl
derive-key salt e (suc (suc (suc (suc (suc zero))))) h l = refl
derive-key salt e (suc (suc (suc (suc (suc (suc zero)))))) h l = refl
derive-key salt e (suc (suc (suc (suc (suc (suc (suc zero))))))) h l = refl
derive-key salt e (suc (suc (suc (suc (suc (suc (suc (suc j)))))))) h l = absurd (omega arith)

pub commit-first-key : (salt : List ℕ) (e : ℕ) → tree_key salt e 7 ≡ expand_key (tweak_salt salt commit_first e 0)
unfolding tree_key tree_purposes tree_layers
commit-first-key salt e = refl

pub commit-second-key : (salt : List ℕ) (e : ℕ) → tree_key salt e 8 ≡ expand_key (tweak_salt salt commit_second e 0)
unfolding tree_key tree_purposes tree_layers
commit-second-key salt e = refl

pub expand-key : (salt : List ℕ) (e i : ℕ) → i < 3 → tree_key salt e (9 + i) ≡ expand_key (tweak_salt salt expand e i)
unfolding tree_key tree_purposes tree_layers
expand-key salt e zero l = refl
expand-key salt e (suc zero) l = refl
expand-key salt e (suc (suc zero)) l = refl
expand-key salt e (suc (suc (suc i))) l = absurd (omega arith)

-- ---- the code's table of a tree's keys

abbrev pub in_code : List (Purpose × ℕ)
in_code =
    (Derive, 1) ∷ (Derive, 2) ∷ (Derive, 3) ∷ (Derive, 4) ∷ (Derive, 5) ∷ (Derive, 6) ∷ (Derive, 7) ∷ (CommitFirst, 0) ∷ (CommitSecond, 0)
    ∷ (Expand, 0) ∷ (Expand, 1) ∷ (Expand, 2) ∷ []

purpose-in_code : (k : ℕ) (d : Purpose × ℕ) → k < 12 → vec tree_purposes k ≡ place_of (get_or in_code k d).0
unfolding tree_purposes
purpose-in_code k d h = get_or-map (λ (p : Purpose × ℕ). place_of p.0) in_code k d 0 h

layer-in_code : (k : ℕ) (d : Purpose × ℕ) → k < 12 → vec tree_layers k ≡ (get_or in_code k d).1
unfolding tree_layers
layer-in_code k d h = get_or-map (λ (p : Purpose × ℕ). p.1) in_code k d 0 h

pub key-in_code : (k : ℕ) (d : Purpose × ℕ) (salt : List ℕ) (e : ℕ) → k < 12
    → expand_key (tweak_salt salt (place_of (get_or in_code k d).0) e (get_or in_code k d).1) ≡ tree_key salt e k
unfolding tree_key
key-in_code k d salt e h = ap₂ (λ (p j : ℕ). expand_key (tweak_salt salt p e j)) (sym (purpose-in_code k d h)) (sym (layer-in_code k d h))

Below : ℕ → List ℕ → Type 0
Below b [] = Unit {0}
Below b (x ∷ l) = (x < b) × Below b l

below_at : (b : ℕ) (l : List ℕ) → 0 < b → Below b l → (k : ℕ) → vec l k < b
unfolding Below
below_at b [] h p k = h
below_at b (x ∷ l) h p zero = p.0
below_at b (x ∷ l) h p (suc k) = below_at b l h p.1 k

pub purpose-small : (k : ℕ) → vec tree_purposes k < 13
unfolding tree_purposes Below
purpose-small k = below_at 13 tree_purposes (lit< tt) (omega arith) k

pub layer-small : (k : ℕ) → vec tree_layers k < 256
unfolding tree_layers Below
layer-small k = below_at 256 tree_layers (lit< tt) (omega arith) k

pub small-in_code : (k : ℕ) (d : Purpose × ℕ) → k < 12 → (get_or in_code k d).1 < 256
small-in_code k d h = subst (λ (j : ℕ). j < 256) (layer-in_code k d h) (layer-small k)

-- ---- a loop that writes m keys, one after the other

pub keys_none : (f : ℕ → List ℕ) (s : List ℕ) → part 0 (176 * 0) s ≡ joined 0 f
unfolding part joined
keys_none f s = refl

pub keys-turn : (f : ℕ → List ℕ) (m k : ℕ) (x s : List ℕ) {t : List ℕ} → t ≡ place (176 * k) x s → x ≡ f k → length (f k) ≡ 176 → k < m
    → length s ≡ 176 * m
    → part 0 (176 * k) s ≡ joined k f
    → part 0 (176 * (k + 1)) t ≡ joined (k + 1) f
keys-turn f m k x s e ex l h hs p =
    ap (part 0 (176 * (k + 1))) e ∙ part-turn 0 176 k f x s (176 * k) p ex l (omega arith) (omega arith)

pub keys-all : (f : ℕ → List ℕ) (m k : ℕ) (s : List ℕ) → length s ≡ 176 * m → k ≤ m → m ≤ k → part 0 (176 * k) s ≡ joined k f → s ≡ joined m f
keys-all f m k s hs h l p =
    sym (part-all (176 * m) s hs) ∙ ap (λ (n : ℕ). part 0 (176 * n) s) (sym same) ∙ p ∙ ap (λ (n : ℕ). joined n f) same
  where
    same : k ≡ m
    same = omega arith
