-- `shake::keccak::keccak_f` meets its contract: before each turn what is left are the rounds of the constants from there on.
-- Assumes nothing.
use Rattle.std.proofs.Common.{◌≡◌, drop}
use Rattle.shake.specs.Keccak.{rounds, constants, keccak_f}
use Rattle.shake.proofs.keccak.keccak_f.Given as goal

abbrev pub invariant-loop-rc : goal.invariant-loop-rc
invariant-loop-rc l = rounds (drop l.rc-index constants) l.s ≡ keccak_f l.initial.s
