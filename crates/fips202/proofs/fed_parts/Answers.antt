-- `fips202::fed_parts` meets its contract: before each turn all but the rest of the text is fed. Assumes nothing.
use Rattle.std.proofs.Common.{◌≡◌, ℕ, List, ◌++◌, sym, ap, ◌∙◌, append_assoc}
use Rattle.shake.specs.Held.{Absorbs}
use Rattle.shake.specs.declared.Sponge.{Sponge}
use Rattle.shake.proofs.Blocks.{Reached, reached-end}
use Rattle.fips202.proofs.fed_parts.Goals as goal

fed_more : (part : List ℕ) {s t : Sponge} {rest rest' whole : List ℕ} → Absorbs s part t → Reached s rest whole → rest ≡ part ++ rest' → Reached t rest' whole
fed_more part {rest' = rest'} a r e =
    record {
      done = r.done ++ part;
      holds = a r.done r.holds;
      joined = append_assoc r.done part rest' ∙ ap (λ (l : List ℕ). r.done ++ l) (sym e) ∙ r.joined;
    }

pub loop-part-preserved : goal.loop-part-preserved
loop-part-preserved c =
    let e = rw c.in-Some.is at c.next.ensures.steps in
    fed_more _ c.absorb-t.ensures c.loop-part.invariant e.1.0

pub returns : goal.returns
returns c =
    let e = rw c.in-None.is at c.next.ensures.steps in
    reached-end c.loop-part.invariant e.1.0
