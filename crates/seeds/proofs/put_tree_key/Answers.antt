-- `seeds::put_tree_key` meets its contract: its table is those of the definitions. Assumes nothing.
use Rattle.std.proofs.Common.{List, ℕ, ◌*◌, ◌∙◌, ap, arith}
use Rattle.octets.specs.Place.{place}
use Rattle.aes.specs.Words.{block_of}
use Rattle.seeds.proofs.Keys.{key-in_code, small-in_code}
use Rattle.seeds.proofs.put_tree_key.Goals as goal

pub put_key-requires-clause-purpose_bound : goal.put_key-requires-clause-purpose_bound
put_key-requires-clause-purpose_bound c = (omega arith, small-in_code c.args.k _ c.requires.1)

pub returns : goal.returns
returns c =
    let a = c.args in
    c.put_key.ensures ∙ ap (λ (x : List ℕ). place (176 * a.k) x a.out.now) (key-in_code a.k _ (block_of a.salt) a.e c.requires.1)
