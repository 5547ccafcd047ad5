-- The root seeds: block e of PRG (0, 0, mseed), written one behind the other. Assumes nothing.
use mathlib.Core.Path.{◌≡◌, sym, ap, ◌∙◌}
use mathlib.Core.List.{List}
use Prim.Native.Nat.{ℕ, ◌+◌, ◌*◌, ◌<◌, ◌≤◌}
use native.Mathlib.Numerals.{add-one}
use native.Mathlib.Omega.{arith}
use lib.ListN.{length}
use Rattle.octets.specs.Lists.{part, joined, zero16}
use Rattle.octets.specs.Place.{place}
use Rattle.octets.proofs.Part.{part-all, part-joined, length-joined}
use Rattle.octets.proofs.Place.{length-place, place_none, place-turn}
use Rattle.octets.proofs.Frame.{part-place, part-part}
use Rattle.paper.specs.Symmetric.{prg, prg_block}
use Rattle.paper.specs.Commit.{rseed}
use Rattle.paper.proofs.Symmetric.{length-prg_block}
use Rattle.workspace.specs.Map.{at_roots}

pub roots-none : (m s : List ℕ) → s ≡ place at_roots (joined 0 (rseed m)) s
unfolding joined
roots-none m s = sym (place_none at_roots s)

module _ (m : List ℕ) (hm : length m ≡ 16) where
  blocks : prg zero16 0 m 272 ≡ joined 17 (prg_block zero16 0 m)
  unfolding prg
  blocks = part-all 272 (joined 17 (prg_block zero16 0 m)) (length-joined 17 16 (prg_block zero16 0 m) (λ i h. length-prg_block zero16 0 m i hm))

  pub rseed-block : (e : ℕ) → e < 17 → prg_block zero16 0 m e ≡ rseed m e
  unfolding rseed
  rseed-block e he =
      sym (ap (part (16 * e) 16) blocks ∙ part-joined 17 16 (prg_block zero16 0 m) (λ i h. length-prg_block zero16 0 m i hm) e he)

  length-rseed : (e : ℕ) → e < 17 → length (rseed m e) ≡ 16
  length-rseed e he = ap length (sym (rseed-block e he)) ∙ length-prg_block zero16 0 m e hm

  length-roots : (n : ℕ) → n ≤ 17 → length (joined n (rseed m)) ≡ n * 16
  length-roots n h = length-joined n 16 (rseed m) (λ i hi. length-rseed i (omega arith))

  pub roots-turn : (e : ℕ) (s w w' : List ℕ) → e < 17 → w ≡ place at_roots (joined e (rseed m)) s → w' ≡ place (at_roots + 16 * e) (rseed m e) w
      → w' ≡ place at_roots (joined (e + 1) (rseed m)) s
  roots-turn e s w w' he p q =
      q ∙ ap (place (at_roots + 16 * e) (rseed m e)) p
      ∙ place-turn at_roots (rseed m) e s (at_roots + 16 * e) (omega (arith, length-roots e (omega arith)))
      ∙ ap (λ (k : ℕ). place at_roots (joined k (rseed m)) s) (sym (add-one e))

  -- each of them, once all are written
  pub root-at : (s : List ℕ) → length s ≡ 65536 → (e : ℕ) → e < 17 → part (at_roots + 16 * e) 16 (place at_roots (joined 17 (rseed m)) s) ≡ rseed m e
  root-at s hs e he =
      sym (part-part at_roots 272 (16 * e) 16 (place at_roots (joined 17 (rseed m)) s) (omega arith) (omega (arith, length-place at_roots (joined 17 (rseed m)) s)))
      ∙ ap (part (16 * e) 16) (part-place at_roots 272 (joined 17 (rseed m)) s (length-roots 17 (omega arith)) (omega arith))
      ∙ part-joined 17 16 (rseed m) (λ i hi. length-rseed i hi) e he
