-- `shake::Sponge::absorb` meets its contract: before each turn all but the rest of the text is fed. Assumes nothing.
use Rattle.std.proofs.Common.{List, ℕ, length, ◌≡◌, ap, arith}
use Rattle.std.proofs.lemmas.Bool.Decides.{nat_tests}
use Rattle.shake.specs.Held.{sponge}
use Rattle.shake.proofs.Blocks.{held, reached-is, reached-next, reached-turn, reached-end}
use Rattle.shake.proofs.Sponge.absorb.Goals as goal

pub loop-rest-preserved-then-at-eq168 : goal.loop-rest-preserved-then-at-eq168
loop-rest-preserved-then-at-eq168 c =
    record {
      below = omega arith;
      held = λ m e.
          reached-is (ap (λ (a : List ℕ). sponge a 0) c.keccak_f.ensures)
          (reached-turn c.put_some-n.ensures (c.loop-rest.invariant.held m e) c.if-at-eq168.true);
    }

pub loop-rest-preserved : goal.loop-rest-preserved
loop-rest-preserved c =
    record {
      below = omega arith;
      held = λ m e. reached-next c.put_some-n.ensures (c.loop-rest.invariant.held m e) (omega arith);
    }

pub returns : goal.returns
returns c =
    let end : length c.loop-rest.rest.now ≡ 0 = grind (arith, nat_tests) in
    λ m e. reached-end (c.loop-rest.invariant.held m (held m e)) end
