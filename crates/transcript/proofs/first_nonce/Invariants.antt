-- `transcript::first_nonce` meets its contract: no nonce below the present one passed. The measure is what is left of the tries.
-- Assumes nothing.
use Prim.Native.Nat.{◌-◌}
use Rattle.transcript.proofs.Nonces.{Searching}
use Rattle.transcript.proofs.first_nonce.Given as goal

abbrev pub invariant-loop-nonce : goal.invariant-loop-nonce
invariant-loop-nonce l = Searching l.hash l.tries l.p l.nonce

abbrev pub decreases-loop-nonce : goal.decreases-loop-nonce
decreases-loop-nonce l = l.tries - l.nonce
