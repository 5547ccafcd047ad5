-- `seeds::derive_at` meets its contract. Assumes nothing.
use mathlib.Core.Path.{◌≡◌, ap, ◌∙◌}
use Prim.Native.Nat.{ℕ, ◌+◌, ◌-◌, ◌*◌}
use native.Mathlib.Omega.{arith}
use lib.ListN.{take, drop}
use Rattle.octets.specs.Lists.{part}
use Rattle.aes.specs.Words.{block_of}
use Rattle.seeds.specs.Expanded.{derive_with, key_at}
use Rattle.seeds.proofs.derive_at.Goals as goal

pub returns : goal.returns
unfolding key_at part
returns c =
    let a = c.args in
    let e : 176 * a.k + 176 - 176 * a.k ≡ 176 = omega arith in
    c.derive.ensures ∙ ap (λ (n : ℕ). derive_with (take n (drop (176 * a.k) a.keys.now)) (block_of a.s)) e
