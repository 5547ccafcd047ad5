-- `expansion::seed` meets its contract. Assumes nothing.
use mathlib.Core.Path.{sym, ap, ap₂, ◌∙◌}
use mathlib.Core.List.{◌∷◌, ◌++◌}
use Prim.Native.Nat.{suc}
use native.Mathlib.Omega.{arith}
use lib.ListN.{length}
use Rattle.octets.specs.Lists.{bytes_of}
use Rattle.octets.proofs.Part.{part-all}
use Rattle.shake.proofs.Shake.{length-shake128}
use Rattle.seeds.proofs.Hash.{xof-flat}
use Rattle.paper.specs.Symmetric.{for_equations}
use Rattle.paper.specs.Keys.{seed_eq}
use Rattle.equations.proofs.Blocks.{seed-input, length-input}
use Rattle.equations.proofs.expansion.seed.Goals as goal

pub slice_bounds-xof-end : goal.slice_bounds-xof-end
slice_bounds-xof-end c =
    let b = c.copy_from_slice-2.ensures.after ∙ c.to_le_bytes.ensures in
    ap suc (sym (length-input _ c.args.mseed.now _ c.args.i c.copy_from_slice.ensures.after (omega arith) b))

pub returns : goal.returns
unfolding seed_eq
returns c =
    let m = c.args.mseed.now in
    let i = c.args.i in
    let e = c.xof.ensures in
    c.load.ensures ∙ part-all 16 _ (ap length e ∙ length-shake128 _ 16) ∙ e
    ∙ xof-flat for_equations (m ++ bytes_of 2 i) _ 16
    (ap₂ ◌∷◌ c.selector.ensures
    (seed-input _ m _ i c.copy_from_slice.ensures.after (omega arith) (c.copy_from_slice-2.ensures.after ∙ c.to_le_bytes.ensures)))
