-- `signer::Signer::write_signature` meets its contract. Assumes nothing.
use Rattle.std.proofs.Common.{arith, refl}
use Rattle.octets.specs.Lists.{part, bytes_of}
use Rattle.octets.proofs.Part.{length_part, length-bytes_of}
use Rattle.paper.specs.Keys.{solution_of}
use Rattle.paper.proofs.Keys.{length-solution_of}
use Rattle.workspace.proofs.Lent.{lent}
use Rattle.signer.proofs.Signing.{signature-written}
use Rattle.signer.proofs.Signer.write_signature.Goals as goal

pub returns : goal.returns
unfolding part
returns c =
    let a = c.args in
    let s = a.self.now in
    let w = a.work.now in
    let h = c.write_head in
    let p = c.put_nonce in
    λ m g.
    signature-written m s.salt (solution_of s.sk.now) a.h.now.com1 a.h.now.com2 (part 42877 476 w) a.h.now.hash _ a.sig.now _ _ _ _ _ (bytes_of 4 a.nonce)
    s.salt_len (omega arith) (omega arith) (length_part 42877 476 w (omega arith)) (length-bytes_of 4 a.nonce) (omega arith) g.seed (length-solution_of s.sk.now s.sk_len)
    h.ensures (lent 3480 3480 4 refl p.new.out h.new.sig (omega arith) p.auto.out) p.ensures c.sample-c.ensures
    (c.write_openings.ensures m g)
