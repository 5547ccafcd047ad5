-- `signer::put_root` meets its contract: block e of PRG is a root seed. Assumes nothing.
use mathlib.Core.Path.{ap, ◌∙◌}
use mathlib.Core.List.{List}
use Prim.Native.Nat.{ℕ, ◌+◌, ◌*◌}
use Rattle.octets.specs.Lists.{part}
use Rattle.octets.specs.Place.{place}
use Rattle.aes.specs.Words.{block_of}
use Rattle.aes.proofs.Blocks.{length-block_of}
use Rattle.signer.proofs.Roots.{rseed-block}
use Rattle.signer.proofs.put_root.Goals as goal

pub new-requires : goal.new-requires
unfolding part
new-requires c = ap (λ (k : ℕ). part 0 k c.args.work.now) c.at_vectors-v.ensures ∙ c.requires.0

pub returns : goal.returns
returns c =
    let a = c.args in
    c.store.ensures
    ∙ ap (λ (l : List ℕ). place (43360 + 16 * a.e) l a.work.now)
    (c.block-r.ensures ∙ rseed-block (block_of a.m) (length-block_of a.m) a.e c.requires.1)
