-- `workspace::commitment` meets its contract. Assumes nothing.
use Rattle.std.proofs.Common.{◌≡◌, ℕ, ◌+◌, ◌-◌, [], ◌∷◌, set, ap, ◌∙◌, arith}
use Rattle.octets.specs.Lists.{part}
use Rattle.octets.specs.Place.{place}
use Rattle.octets.proofs.Laid.{set-place, part-headed}
use Rattle.paper.specs.Symmetric.{selector}
use Rattle.seeds.specs.Purpose.{place_of}
use Rattle.seeds.proofs.Hash.{hash-flat}
use Rattle.workspace.proofs.commitment.Goals as goal

pub returns-clause-hash : goal.returns-clause-hash
unfolding part
returns-clause-hash c =
    let i = c.args.at in
    let w = c.args.work.now in
    let u = place_of c.args.purpose in
    let n = c.args.end - i - 1 in
    let stored : set w i c.selector.result ≡ place i (selector u ∷ []) w = ap (set w i) c.selector.ensures ∙ set-place i (selector u) w in
    let size : c.args.end - i ≡ 1 + n = omega arith in
    c.hash32.ensures
    ∙ hash-flat u (part (i + 1) n w) _ (ap (λ (k : ℕ). part i k (set w i c.selector.result)) size ∙ ap (part i (1 + n)) stored ∙ part-headed i n (selector u) w (omega arith))

pub returns-clause-rest : goal.returns-clause-rest
returns-clause-rest c =
    let w = c.args.work.now in
    ap (set w c.args.at) c.selector.ensures ∙ set-place c.args.at (selector (place_of c.args.purpose)) w
