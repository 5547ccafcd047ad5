-- Tweaks of different purposes, trees or layers differ: what TweakSalt adds to a salt tells them apart. Assumes nothing.
use mathlib.Core.Path.{◌≡◌, refl, sym, ◌∙◌}
use Prim.Native.Nat.{ℕ, zero, suc, ◌+◌, ◌*◌, ◌/◌, ◌%◌, ◌<◌}
use native.Mathlib.Omega.{arith}
use lib.Dec.{lit<}
use Rattle.paper.specs.Symmetric.{selectors, selector, commit_first}
use Rattle.paper.proofs.Symmetric.{tweak-selectors-differ}

selector-small : (i : ℕ) → i < 4 → selector (commit_first + i) < 4
unfolding selector selectors
selector-small zero h = lit< tt
selector-small (suc zero) h = lit< tt
selector-small (suc (suc zero)) h = lit< tt
selector-small (suc (suc (suc zero))) h = lit< tt
selector-small (suc (suc (suc (suc i)))) h = absurd (omega arith)

-- a number's parts are its rests
parts : (a e j n : ℕ) → a < 4 → e < 64 → n ≡ a + 4 * e + 256 * j → (n % 4 ≡ a) × (n / 4 % 64 ≡ e) × (n / 256 ≡ j)
parts a e j n ha he h = (omega arith, omega arith, omega arith)

pub tweaks-apart : (i e j i' e' j' : ℕ) → i < 4 → i' < 4 → e < 64 → e' < 64
    → selector (commit_first + i) + 4 * e + 256 * j ≡ selector (commit_first + i') + 4 * e' + 256 * j'
    → (i ≡ i') × (e ≡ e') × (j ≡ j')
tweaks-apart i e j i' e' j' hi hi' he he' h =
    let p = parts (selector (commit_first + i)) e j _ (selector-small i hi) he refl in
    let q = parts (selector (commit_first + i')) e' j' _ (selector-small i' hi') he' h in
    (tweak-selectors-differ i i' hi hi' (sym p.0 ∙ q.0), sym p.1 ∙ q.1, sym p.2 ∙ q.2)
