-- `aes::Tables::encrypt` meets its contract: s0 to s9 are the states after each full round. Assumes nothing.
use Rattle.aes.specs.Words.{block_of}
use Rattle.aes.proofs.Rounds.{round-start, round-more, round-end}
use Rattle.aes.proofs.tables.Tables.encrypt.Goals as goal

pub returns : goal.returns
returns c = let w = c.args.w.now in
    let x = block_of c.args.x in
    let e0 = round-start w x c.bitxor-s0.ensures c.load.ensures in
    let e1 = round-more w x 0 c.round-s1.ensures c.load-2.ensures e0 in
    let e2 = round-more w x 1 c.round-s2.ensures c.load-3.ensures e1 in
    let e3 = round-more w x 2 c.round-s3.ensures c.load-4.ensures e2 in
    let e4 = round-more w x 3 c.round-s4.ensures c.load-5.ensures e3 in
    let e5 = round-more w x 4 c.round-s5.ensures c.load-6.ensures e4 in
    let e6 = round-more w x 5 c.round-s6.ensures c.load-7.ensures e5 in
    let e7 = round-more w x 6 c.round-s7.ensures c.load-8.ensures e6 in
    let e8 = round-more w x 7 c.round-s8.ensures c.load-9.ensures e7 in
    let e9 = round-more w x 8 c.round-s9.ensures c.load-10.ensures e8 in
    round-end w x c.last_round.ensures c.load-11.ensures e9
