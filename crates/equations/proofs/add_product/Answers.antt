-- `equations::add_product` meets its contract. Assumes nothing.
use Rattle.std.proofs.Common.{◌∙◌, arith, rules}
use Rattle.equations.proofs.Products.{product, product-is}
use Rattle.equations.proofs.add_product.Goals as goal

pub returns : goal.returns
returns c =
    let s = c.args in
    λ v h. c.add_digits.ensures product (λ x x17 y y17 r q. search rules) ∙ product-is s.m.now s.k s.t s.z.now (omega arith) v h
