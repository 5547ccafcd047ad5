-- `shake::squeeze` meets its contract: before each turn so many bytes of the output are written, and j of them are of the state's block.
-- Assumes nothing.
use Rattle.std.proofs.Common.{◌≡◌, ℕ, suc, ◌+◌, ◌-◌, ◌/◌, ◌%◌, length, refl, sym, ap, ◌∙◌, arith}
use Rattle.octets.proofs.Write.{written_none, fill-turn, fill_end}
use Rattle.shake.specs.Keccak.{keccak_f}
use Rattle.shake.specs.Shake.{byte_of}
use Rattle.shake.proofs.Output.{length-output, after, after-zero, after-suc, output-byte}
use Rattle.shake.proofs.squeeze.Goals as goal
use Rattle.shake.proofs.squeeze.Goals.{then-j-eq168, else-j-eq168}

pub loop-b-init : goal.loop-b-init
loop-b-init c = record { room = omega arith; upto = omega arith; start = refl; state = after-zero c.args.lanes; wrote = written_none _ _ _ }

pub loop-b-preserved : goal.loop-b-preserved
loop-b-preserved c =
    let i = c.loop-b.b-index in
    let j = c.loop-b.j in
    let inv = c.loop-b.invariant in
    let lanes = c.args.lanes in
    let d = length c.args.out.now in
    let met = c.if-j-eq168 in
    -- where the arms of the `if` meet, the block has byte i of the output
    let at : (met.a ≡ after (i / 168) lanes) × (met.j ≡ i % 168) =
    elim met.branch [
      | then-j-eq168 w ↦
          let next : suc ((i - j) / 168) ≡ i / 168 = omega arith in
          (w.a-is ∙ w.keccak_f.ensures ∙ ap keccak_f inv.state ∙ after-suc ((i - j) / 168) lanes ∙ ap (λ (k : ℕ). after k lanes) next, omega arith)
      | else-j-eq168 w ↦
          let same : (i - j) / 168 ≡ i / 168 = omega arith in
          (w.a-is ∙ inv.state ∙ ap (λ (k : ℕ). after k lanes) same, omega arith)
    ]
    in
    let on : i / 168 ≡ (i + 1 - (met.j + 1)) / 168 = omega (arith, at.1) in
    record {
      room = omega (arith, at.1);
      upto = omega (arith, at.1);
      start = omega (arith, at.1);
      state = at.0 ∙ ap (λ (k : ℕ). after k lanes) on;
      wrote =
          fill-turn _ _ _ (omega arith) (omega (arith, length-output lanes d)) inv.wrote
          (ap (byte_of met.a) at.1 ∙ output-byte lanes _ d i at.0 (omega arith));
    }

pub returns : goal.returns
returns c = fill_end _ _ _ (sym (length-output _ _)) (omega arith) c.loop-b.invariant.wrote
