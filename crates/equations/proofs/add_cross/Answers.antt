-- `equations::add_cross` meets its contract. Assumes nothing.
use Rattle.std.proofs.Common.{◌∙◌, arith, rules}
use Rattle.octets.proofs.Xor.{xor-is-⊕}
use Rattle.equations.proofs.Products.{cross, cross-is}
use Rattle.equations.proofs.add_cross.Goals as goal

pub returns : goal.returns
returns c =
    let s = c.args in
    λ v h. c.add_digits.ensures cross (λ x x17 y y17 r q. search (rules, xor-is-⊕)) ∙ cross-is s.m.now s.k s.t s.z.now (omega arith) v h
