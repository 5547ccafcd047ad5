-- `aes::Tables::expand` meets its contract: before turn r the first r + 1 round keys stand, and k is the last of them. Assumes nothing.
use mathlib.Core.Path.{refl, ◌∙◌, ap, sym}
use Prim.Native.Nat.{◌+◌, ◌*◌}
use native.Mathlib.Omega.{arith}
use native.Mathlib.Numerals.{add-one}
use lib.Dec.{lit<}
use Rattle.field.specs.Gf.{times_root}
use Rattle.aes.specs.Words.{block_of}
use Rattle.aes.specs.Cipher.{x_power}
use Rattle.aes.proofs.Keys.{held-own, held-turn, stored-none, stored_more, expanded}
use Rattle.aes.proofs.tables.Tables.expand.Goals as goal

pub loop-r-init : goal.loop-r-init
unfolding x_power
loop-r-init c = let key = c.args.key in
    let held = held-own key in
    let st = c.store in
    (st.auto.s, stored_more (block_of key) 0 key _ 0 st.ensures refl refl (lit< tt) (stored-none (block_of key) _) held, held, refl)

pub loop-r-preserved : goal.loop-r-preserved
unfolding x_power
loop-r-preserved c = let l = c.loop-r in
    let r = l.r in
    let key = block_of c.args.key in
    let n = c.next_key-k in
    let st = c.store-in-loop-r in
    let held = held-turn key r l.k l.rc n.result n.ensures l.invariant.2 l.invariant.3 in (
      st.auto.s ∙ l.invariant.0,
      stored_more key (r + 1) n.result l.w (16 * r + 16) st.ensures (omega arith) l.invariant.0 (omega arith) l.invariant.1 held,
      held,
      c.times_root-rc.ensures ∙ ap (times_root 7 0x1b) l.invariant.3 ∙ ap x_power (sym (add-one r)),
    )

pub returns : goal.returns
returns c = let l = c.loop-r in
    expanded (block_of c.args.key) l.w l.r l.invariant.0 l.auto.r-end (omega arith) l.invariant.1
