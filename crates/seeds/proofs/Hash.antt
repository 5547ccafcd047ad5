-- XOF and Hash of a text that lies behind its selector in one buffer. Assumes nothing.
use mathlib.Core.Path.{◌≡◌, ap}
use mathlib.Core.List.{List, ◌∷◌}
use Prim.Native.Nat.{ℕ}
use Rattle.shake.specs.Shake.{shake128}
use Rattle.paper.specs.Symmetric.{selector, xof, hash}

pub xof-flat : (purpose : ℕ) (m buf : List ℕ) (n : ℕ) → buf ≡ selector purpose ∷ m → shake128 buf n ≡ xof purpose m n
unfolding xof
xof-flat purpose m buf n e = ap (λ (l : List ℕ). shake128 l n) e

pub hash-flat : (purpose : ℕ) (m buf : List ℕ) → buf ≡ selector purpose ∷ m → shake128 buf 32 ≡ hash purpose m
unfolding hash
hash-flat purpose m buf e = xof-flat purpose m buf 32 e
