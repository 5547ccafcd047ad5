-- `shake::put_some` meets its contract. Assumes nothing.
use Rattle.std.proofs.Common.{◌∙◌, arith}
use Rattle.shake.proofs.Lanes.{byte-first}
use Rattle.shake.proofs.put_some.Goals as goal

pub returns : goal.returns
returns c =
    record {
      some = omega arith;
      room = omega arith;
      have = omega arith;
      put = c.put.ensures ∙ byte-first c.args.a.now c.args.text.now c.args.j (omega arith);
    }
