-- Verif (algorithm 5) from its three tests, in the order in which the code makes them. Assumes nothing.
use mathlib.Core.Path.{◌≡◌, refl, sym, ap, subst, ◌∙◌}
use mathlib.Core.Bool.{Bool, true, false, ◌&&◌}
use mathlib.Core.List.{List}
use Prim.Native.Nat.{ℕ}
use Rattle.octets.specs.Lists.{alike}
use Rattle.paper.specs.Alpha.{r3}
use Rattle.paper.specs.Challenge.{challenge, hidden_in, passes}
use Rattle.paper.specs.Scheme.{transcript, sig_com1, sig_com2, sig_nonce, check_challenge, check_com1, check_com2, verif_parts, verif_of}
use Rattle.checker.specs.State.{com1_of, com2_of}

-- the three tests for the challenge c
abbrev tests : List ℕ → List ℕ → List ℕ → Bool
tests pk sig c = passes c && alike (com1_of sig (hidden_in c)) (sig_com1 r3 sig) && alike (com2_of pk sig (hidden_in c)) (sig_com2 r3 sig)

module _ (pk msg sig h c : List ℕ) (eh : h ≡ transcript pk (sig_com1 r3 sig) (sig_com2 r3 sig) msg) (ec : c ≡ challenge h (sig_nonce r3 sig)) where
  verif-tests : tests pk sig c ≡ verif_of r3 pk msg sig
  unfolding verif_of verif_parts check_challenge check_com1 check_com2
  verif-tests = ap (tests pk sig) (ec ∙ ap (λ (z : List ℕ). challenge z (sig_nonce r3 sig)) eh)

  -- the nonce fails
  pub verif-first : (p : Bool) → p ≡ passes c → p ≡ false → false ≡ verif_of r3 pk msg sig
  verif-first p ep q =
      subst (λ (b : Bool). false ≡ (b && alike (com1_of sig (hidden_in c)) (sig_com1 r3 sig) && alike (com2_of pk sig (hidden_in c)) (sig_com2 r3 sig))) (sym q ∙ ep) refl
      ∙ verif-tests

  -- com_1 differs
  pub verif-second : (p a : Bool) → p ≡ passes c → p ≡ true → a ≡ alike (com1_of sig (hidden_in c)) (sig_com1 r3 sig) → a ≡ false → false ≡ verif_of r3 pk msg sig
  verif-second p a ep q ea r =
      subst (λ (b : Bool). false ≡ (b && alike (com1_of sig (hidden_in c)) (sig_com1 r3 sig) && alike (com2_of pk sig (hidden_in c)) (sig_com2 r3 sig))) (sym q ∙ ep)
      (subst (λ (b : Bool). false ≡ (true && b && alike (com2_of pk sig (hidden_in c)) (sig_com2 r3 sig))) (sym r ∙ ea) refl)
      ∙ verif-tests

  -- com_2 decides
  pub verif-third : (p a b : Bool) → p ≡ passes c → p ≡ true → a ≡ alike (com1_of sig (hidden_in c)) (sig_com1 r3 sig) → a ≡ true
      → b ≡ alike (com2_of pk sig (hidden_in c)) (sig_com2 r3 sig)
      → b ≡ verif_of r3 pk msg sig
  verif-third p a b ep q ea r eb =
      eb
      ∙ subst (λ (z : Bool). alike (com2_of pk sig (hidden_in c)) (sig_com2 r3 sig) ≡ (z && alike (com1_of sig (hidden_in c)) (sig_com1 r3 sig) && alike (com2_of pk sig (hidden_in c)) (sig_com2 r3 sig))) (sym q ∙ ep)
      (subst (λ (z : Bool). alike (com2_of pk sig (hidden_in c)) (sig_com2 r3 sig) ≡ (true && z && alike (com2_of pk sig (hidden_in c)) (sig_com2 r3 sig))) (sym r ∙ ea) refl)
      ∙ verif-tests
