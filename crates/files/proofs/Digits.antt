-- The line of a number: its decimal digits and a line end. Assumes nothing.
use mathlib.Core.Path.{◌≡◌, ap, ◌∙◌, subst}
use mathlib.Core.List.{List, [], ◌∷◌, ◌++◌}
use Prim.Native.Nat.{ℕ, ◌+◌, ◌-◌, ◌^◌, ◌<◌, ◌≤◌}
use native.Mathlib.Nat.{lt_of_not-le, pow-le-pow_right}
use native.Mathlib.Numerals.{add-one}
use native.Mathlib.Omega.{arith}
use lib.ListN.{length, take, set, length-set}
use lib.Seq.{take-suc-set}
use Rattle.io.specs.Counts.{IsPrefixLen}
use Rattle.io.specs.Digits.{last_digits, IsDigitCount}
use Rattle.io.proofs.Counting.{prefix_len_of_le}
use Rattle.files.specs.Files.{IsLine}

-- a byte has at most three digits
pub at-most-three : (n k : ℕ) → n < 256 → IsDigitCount 10 1 n k → k < 4
at-most-three n k h f = lt_of_not-le over
  where
    over : ¬ (4 ≤ k)
    over l =
        let p : 10 ^ (k - 1) ≤ n = f.2 (omega arith) in
        let q : 10 ^ 3 ≤ 10 ^ (k - 1) = pow-le-pow_right (omega arith) {i = 3} (omega arith) in
        omega arith

-- k digits of n stand at the start of out, and a line end is put behind them
pub line-ends : (n k : ℕ) (out : List ℕ) → k < length out → IsDigitCount 10 1 n k → take k out ≡ last_digits 10 k n
    → IsPrefixLen (k + 1) (set out k 10) × IsLine n (k + 1) (set out k 10)
line-ends n k out h f e = (
  prefix_len_of_le (k + 1) (set out k 10) (omega (arith, length-set out k 10)),
  subst (λ (j : ℕ). IsDigitCount 10 1 n j × (take (k + 1) (set out k 10) ≡ last_digits 10 j n ++ (10 ∷ []))) (omega arith) (f, text),
)
  where
    text : take (k + 1) (set out k 10) ≡ last_digits 10 k n ++ (10 ∷ [])
    text = ap (λ (j : ℕ). take j (set out k 10)) (add-one k) ∙ take-suc-set out k 10 h ∙ ap (λ (l : List ℕ). l ++ (10 ∷ [])) e
