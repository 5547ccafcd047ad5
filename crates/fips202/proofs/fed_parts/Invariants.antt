-- `fips202::fed_parts` meets its contract: before each turn all but the rest of the text is fed. Assumes nothing.
use Rattle.shake.proofs.Blocks.{Reached}
use Rattle.fips202.proofs.fed_parts.Given as goal

abbrev pub invariant-loop-part : goal.invariant-loop-part
invariant-loop-part l = Reached l.s l.part-iterator.rest.now l.text
