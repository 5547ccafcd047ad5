-- `shake::keccak::keccak_f` meets its contract: before each turn what is left are the rounds of the constants from there on.
-- Assumes nothing.
use Rattle.std.proofs.Common.{◌≡◌, ℕ, ◌+◌, ◌<◌, List, get_or, drop, refl, sym, ap, subst, ◌∙◌, add-one, drop-cons, arith}
use Rattle.shake.specs.Keccak.{round, rounds, constants, keccak_f}
use Rattle.shake.proofs.keccak.keccak_f.Goals as goal

-- one more round
step : (i : ℕ) (s : List ℕ) → i < 24 → rounds (drop (i + 1) constants) (round (get_or constants i 0) s) ≡ rounds (drop i constants) s
unfolding rounds constants
step i s h =
    ap (λ (k : ℕ). rounds (drop k constants) (round (get_or constants i 0) s)) (add-one i)
    ∙ ap (λ (l : List ℕ). rounds l s) (sym (drop-cons constants i 0 h))

-- the code's table holds the constants
with_constant : (i rc : ℕ) (s : List ℕ) {t : List ℕ} → t ≡ round rc s → rc ≡ get_or constants i 0 → t ≡ round (get_or constants i 0) s
with_constant i rc s e f = e ∙ ap (λ (x : ℕ). round x s) f

pub returns : goal.returns
unfolding rounds constants
returns c =
    let e : c.loop-rc.rc-index ≡ 24 = omega arith in
    subst (λ (k : ℕ). rounds (drop k constants) c.loop-rc.s ≡ keccak_f c.args.a.now) e c.loop-rc.invariant

pub loop-rc-init : goal.loop-rc-init
unfolding keccak_f
loop-rc-init c = refl

pub loop-rc-preserved : goal.loop-rc-preserved
unfolding constants
loop-rc-preserved c =
    let l = c.loop-rc in
    ap (rounds (drop (l.rc-index + 1) constants)) (with_constant l.rc-index _ l.s c.round-t.ensures refl)
    ∙ step l.rc-index l.s (omega arith) ∙ l.invariant
