-- `seeds::plain_keys` meets its contract: before turn i the first i keys stand. Assumes nothing.
use mathlib.Core.Path.{ap}
use mathlib.Core.List.{List}
use Prim.Native.Nat.{ℕ}
use native.Mathlib.Omega.{arith}
use Rattle.aes.specs.Cipher.{expand_key}
use Rattle.aes.proofs.Bounds.{length-expand_key}
use Rattle.paper.specs.Symmetric.{tweak_salt, expand}
use Rattle.seeds.specs.Expanded.{plain_keys}
use Rattle.seeds.proofs.Keys.{plain_key, keys_none, keys-turn, keys-all}
use Rattle.seeds.proofs.plain_keys.Goals as goal

pub loop-i-init : goal.loop-i-init
loop-i-init c = keys_none _ _

pub loop-i-preserved : goal.loop-i-preserved
loop-i-preserved c =
    let l = c.loop-i in
    keys-turn plain_key 104 l.i _ l.out c.put_key.ensures (ap (λ (s : List ℕ). expand_key (tweak_salt s expand 0 l.i)) c.zero-salt.ensures) (length-expand_key _)
    (omega arith) (omega arith) l.invariant

pub returns : goal.returns
unfolding plain_keys
returns c =
    let l = c.loop-i in
    keys-all plain_key 104 l.i l.out (omega arith) (omega arith) (omega arith) l.invariant
