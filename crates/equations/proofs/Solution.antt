-- The signer's own lane: what three writes, of all points, of one point and of a lane, leave. Assumes nothing.
use mathlib.Core.Path.{◌≡◌, ap, ◌∙◌}
use mathlib.Core.List.{List}
use Prim.Native.Nat.{ℕ, ◌+◌, ◌*◌, ◌≤◌}
use native.Mathlib.Omega.{arith}
use lib.ListN.{length, set}
use lib.Seq.{get_or-set_same, get_or-set_other}
use Rattle.octets.specs.Lists.{vec, tab}
use Rattle.octets.proofs.Tab.{vec-tab}
use Rattle.field.specs.Vec.{lifted}
use Rattle.equations.specs.Put.{Put, Own}

module _ (x d c p e u : List ℕ) (clear : Put d 24 (λ l. 10752 + l) (λ l. 0) c) (long : length c ≡ 10944)
    (point : p ≡ set c (10752 + 17) 1) (lane : Put p 56 (λ k. 192 * k + 17) (vec u) e) (lift : u ≡ tab 56 (lifted x)) where
  -- a point is not touched by what is written to the vectors before it
  kept : (i : ℕ) → 10752 ≤ i → vec e i ≡ vec p i
  kept i h = lane.others i (λ k hk q. omega arith)

  -- nor by what is written to the point of lane 17
  other : (i : ℕ) → (i ≡ 10769 → ⊥) → vec p i ≡ vec c i
  other i h = ap (λ (s : List ℕ). vec s i) point ∙ get_or-set_other c 10769 i 1 0 h

  pub own_is : Own x d e
  own_is =
      record {
        solution = λ k h. lane.here k h ∙ ap (λ (s : List ℕ). vec s k) lift ∙ vec-tab 56 (lifted x) k h;
        point = kept 10769 (omega arith) ∙ ap (λ (s : List ℕ). vec s 10769) point ∙ get_or-set_same c 10769 1 0 (omega arith);
        points = λ l h ne. kept (10752 + l) (omega arith) ∙ other (10752 + l) (λ q. ne (omega arith)) ∙ clear.here l h;
        others = λ i h apart. lane.others i apart ∙ other i (λ q. omega arith) ∙ clear.others i (λ l hl q. omega arith);
        behind = λ i h. kept i (omega arith) ∙ other i (λ q. omega arith) ∙ clear.others i (λ l hl q. omega arith);
      }
