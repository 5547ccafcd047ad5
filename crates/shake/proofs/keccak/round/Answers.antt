-- `shake::keccak::round` meets its contract. Assumes nothing.
use mathlib.Core.Path.{ap, ◌∙◌}
use mathlib.Core.List.{List}
use Prim.Native.Nat.{ℕ}
use Rattle.shake.specs.Keccak.{rho, pi, chi, iota, round}
use Rattle.shake.proofs.keccak.round.Goals as goal

pub returns : goal.returns
unfolding round
returns c =
    let rc = c.args.rc in
    c.chi_iota.ensures
    ∙ ap (λ (a : List ℕ). iota rc (chi a)) (c.rho_pi.ensures ∙ ap (λ (a : List ℕ). pi (rho a)) c.theta.ensures)
