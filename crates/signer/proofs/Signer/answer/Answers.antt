-- `signer::Signer::answer` meets its contract. Assumes nothing.
use Rattle.std.proofs.Common.{arith}
use Rattle.signer.proofs.Signing.{found-answers, spent-answers}
use Rattle.signer.proofs.Signer.answer.Goals as goal

pub returns-in-Some : goal.returns-in-Some
returns-in-Some c =
    let a = c.args in
    let f = c.first_commitment-com1 in
    let g = c.second_commitment-com2 in
    let h = c.fiat_shamir-hash in
    λ m ok hm p.
    found-answers a.self.now.sk.now a.msg.now a.self.now.salt m a.work.now ok f.result g.result h.result f.new.work g.new.work _ _ a.tries
    a.self.now.sk_len hm (omega arith) p f.ensures.hash f.ensures.rest g.ensures.hash g.ensures.rest (rw c.public.ensures at h.ensures)
    _ a.sig.now _ c.in-Some.ensures
    c.write_signature.ensures

pub returns-in-None : goal.returns-in-None
returns-in-None c =
    let a = c.args in
    let f = c.first_commitment-com1 in
    let g = c.second_commitment-com2 in
    let h = c.fiat_shamir-hash in
    λ m ok hm p.
    spent-answers a.self.now.sk.now a.msg.now a.self.now.salt m a.work.now ok f.result g.result h.result f.new.work g.new.work _ _ a.tries
    a.self.now.sk_len hm (omega arith) p f.ensures.hash f.ensures.rest g.ensures.hash g.ensures.rest (rw c.public.ensures at h.ensures)
    a.sig.now c.in-None.ensures
