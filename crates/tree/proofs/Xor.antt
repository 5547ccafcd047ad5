-- The laws of `xor_all`, the xor of seeds of 16 bytes. Assumes nothing.
use mathlib.Core.Path.{◌≡◌, refl, sym, ap, ◌∙◌}
use mathlib.Core.List.{List, [], ◌∷◌, ◌++◌}
use Prim.Native.Nat.{ℕ}
use lib.ListN.{length}
use Rattle.octets.specs.Xor.{xor_b}
use Rattle.octets.proofs.Xor.{length-xor_b, xor_b-assoc, xor_b-zeros-l, xor_b-zeros-r}
use Rattle.tree.specs.Tree.{xor_all}
use Rattle.octets.proofs.Each.{Each, All16}

pub length-xor_all : (a : List (List ℕ)) → All16 a → length (xor_all a) ≡ 16
unfolding Each xor_all
length-xor_all [] p = refl
length-xor_all (s ∷ a) p = length-xor_b 16 s (xor_all a) p.0 (length-xor_all a p.1)

pub xor_all-append : (a b : List (List ℕ)) → length (xor_all b) ≡ 16 → xor_all (a ++ b) ≡ xor_b (xor_all a) (xor_all b)
unfolding xor_all
xor_all-append [] b h = sym (xor_b-zeros-l 16 (xor_all b) h)
xor_all-append (s ∷ a) b h = ap (xor_b s) (xor_all-append a b h) ∙ sym (xor_b-assoc s (xor_all a) (xor_all b))

pub xor_all-one : (s : List ℕ) → length s ≡ 16 → xor_all (s ∷ []) ≡ s
unfolding xor_all
xor_all-one s h = xor_b-zeros-r 16 s h
