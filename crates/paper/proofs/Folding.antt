-- BLC.ComputeFolding (algorithm 13), run over the 256 tapes of repetition e, gives the constant terms of algorithm 10. Assumes nothing.
use mathlib.Core.Path.{◌≡◌}
use mathlib.Core.List.{List}
use Prim.Native.Nat.{ℕ, ◌*◌, ◌/◌, ◌%◌, ◌^◌}
use Rattle.octets.specs.Lists.{vec}
use Rattle.field.specs.Gf.{lift}
use Rattle.algebra.specs.Folding.{fold_of}
use Rattle.algebra.proofs.Fold.{folding-byte, folding-lifted}
use Rattle.paper.specs.Commit.{x_part, u_part, tape_at, u0_at, x0_at}

module _ (η : ℕ) (mseed salt x : List ℕ) (e : ℕ) where
  -- x_FOLD
  pub x0-folded : (i : ℕ)
      → fold_of 8 (λ k. vec (x_part (tape_at η mseed salt x e k))) (λ t. lift (t (i / 2) / 2 ^ (4 * (i % 2)) % 2 ^ 4)) ≡ x0_at η mseed salt x e i
  x0-folded i = folding-lifted 8 (λ k. x_part (tape_at η mseed salt x e k)) i

  -- u_FOLD
  pub u0-folded : (j : ℕ) → fold_of 8 (λ k. vec (u_part η (tape_at η mseed salt x e k))) (λ t. t j) ≡ u0_at η mseed salt x e j
  u0-folded j = folding-byte 8 (λ k. u_part η (tape_at η mseed salt x e k)) j
