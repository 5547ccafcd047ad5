-- Keys: when a secret key's solution satisfies its equations, and that a generated key's does. Assumes nothing.
use mathlib.Core.Path.{◌≡◌, sym, ap, ap₂, ◌∙◌}
use mathlib.Core.List.{List, [], ◌++◌}
use mathlib.Core.Bool.{true}
use Prim.Native.Nat.{ℕ, ◌+◌, ◌<◌}
use native.Mathlib.Omega.{arith}
use lib.ListN.{length, length-append}
use Rattle.octets.specs.Lists.{vec, part}
use Rattle.algebra.specs.Line.{Solves, form}
use Rattle.octets.proofs.Tab.{length-tab, vec-tab, is-tab}
use Rattle.paper.specs.Symmetric.{for_key}
use Rattle.paper.specs.Keys.{equation, values_at, public_of, solution_of, mseed_eq_of, y_of, satisfied, drawn, key_gen}
use Rattle.field.specs.Vec.{lifted}
use Rattle.octets.proofs.Part.{part-here, part-all, part-skip, length_part}
use Rattle.octets.proofs.Alike.{alike_of, alike-eq}
use Rattle.paper.proofs.Symmetric.{length-xof}

-- ---- satisfied is Solves of each packed equation

solves : (m y x : List ℕ) → values_at m x ≡ y → (q : ℕ) → q < 28 → Solves 56 (equation m y q) (lifted x)
unfolding values_at equation
solves m y x h q hq = sym (vec-tab 28 (λ i. form 56 (equation m [] i) (lifted x)) q hq) ∙ ap (λ (l : List ℕ). vec l q) h

pub satisfied-solves : (sk : List ℕ) → satisfied sk ≡ true
    → (q : ℕ) → q < 28 → Solves 56 (equation (mseed_eq_of (public_of sk)) (y_of (public_of sk)) q) (lifted (solution_of sk))
unfolding satisfied
satisfied-solves sk h =
    solves (mseed_eq_of (public_of sk)) (y_of (public_of sk)) (solution_of sk)
    (alike-eq (values_at (mseed_eq_of (public_of sk)) (solution_of sk)) (y_of (public_of sk)) h)

solved : (m y x : List ℕ) → length y ≡ 28 → ((q : ℕ) → q < 28 → Solves 56 (equation m y q) (lifted x)) → y ≡ values_at m x
unfolding values_at equation
solved m y x hy h = is-tab 28 _ y hy (λ q hq. sym (h q hq))

pub length-public_of : (sk : List ℕ) → length sk ≡ 88 → length (public_of sk) ≡ 60
unfolding public_of
length-public_of sk h = length_part 0 60 sk (omega arith)

pub length-solution_of : (sk : List ℕ) → length sk ≡ 88 → length (solution_of sk) ≡ 28
unfolding solution_of
length-solution_of sk h = length_part 60 28 sk (omega arith)

pub length-y_of : (pk : List ℕ) → length pk ≡ 60 → length (y_of pk) ≡ 28
unfolding y_of
length-y_of pk h = length_part 32 28 pk (omega arith)

pub solves-satisfied : (sk : List ℕ) → length sk ≡ 88
    → ((q : ℕ) → q < 28 → Solves 56 (equation (mseed_eq_of (public_of sk)) (y_of (public_of sk)) q) (lifted (solution_of sk)))
    → satisfied sk ≡ true
unfolding satisfied
solves-satisfied sk h s =
    alike_of _ _ (sym (solved (mseed_eq_of (public_of sk)) (y_of (public_of sk)) (solution_of sk) (length-y_of (public_of sk) (length-public_of sk h)) s))

-- ---- KeyGen

pub length-values_at : (m x : List ℕ) → length (values_at m x) ≡ 28
unfolding values_at
length-values_at m x = length-tab 28 _

module _ (seed_key : List ℕ) where
  abbrev x : List ℕ
  x = part 0 28 (drawn seed_key)

  abbrev m : List ℕ
  m = part 28 32 (drawn seed_key)

  length-drawn : length (drawn seed_key) ≡ 60
  unfolding drawn
  length-drawn = length-xof for_key seed_key 60

  length-x : length x ≡ 28
  length-x = length_part 0 28 (drawn seed_key) (omega (arith, length-drawn))

  length-m : length m ≡ 32
  length-m = length_part 28 32 (drawn seed_key) (omega (arith, length-drawn))

  pub length-pk : length (key_gen seed_key).pk ≡ 60
  unfolding key_gen
  length-pk = length-append m (values_at m x) ∙ ap₂ ◌+◌ length-m (length-values_at m x)

  pub length-sk : length (key_gen seed_key).sk ≡ 88
  unfolding key_gen
  length-sk = length-append (m ++ values_at m x) x ∙ ap₂ ◌+◌ (length-append m (values_at m x) ∙ ap₂ ◌+◌ length-m (length-values_at m x)) length-x

  pub public-of-generated : public_of (key_gen seed_key).sk ≡ (key_gen seed_key).pk
  unfolding public_of key_gen
  public-of-generated = part-here 60 (m ++ values_at m x) x (length-append m (values_at m x) ∙ ap₂ ◌+◌ length-m (length-values_at m x))

  solution-of-generated : solution_of (key_gen seed_key).sk ≡ x
  unfolding solution_of key_gen
  solution-of-generated =
      part-skip 60 0 28 (m ++ values_at m x) x (length-append m (values_at m x) ∙ ap₂ ◌+◌ length-m (length-values_at m x)) ∙ part-all 28 x length-x

  mseed-of-generated : mseed_eq_of (key_gen seed_key).pk ≡ m
  unfolding mseed_eq_of key_gen
  mseed-of-generated = part-here 32 m (values_at m x) length-m

  y-of-generated : y_of (key_gen seed_key).pk ≡ values_at m x
  unfolding y_of key_gen
  y-of-generated = part-skip 32 0 28 m (values_at m x) length-m ∙ part-all 28 (values_at m x) (length-values_at m x)

  -- a key from key generation never meets refusal 4
  pub generated-satisfied : satisfied (key_gen seed_key).sk ≡ true
  unfolding satisfied
  generated-satisfied =
      alike_of _ _
      (ap₂ values_at (ap mseed_eq_of public-of-generated ∙ mseed-of-generated) solution-of-generated
      ∙ sym (ap y_of public-of-generated ∙ y-of-generated))
