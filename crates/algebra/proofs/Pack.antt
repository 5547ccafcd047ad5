-- Packing, for every basis: a packed system holds exactly when the unpacked one does (document 001, section 2.1.2). Assumes nothing.
use mathlib.Core.Path.{◌≡◌, refl, sym, ap, ap₂, ◌∙◌, subst, fun_ext}
use mathlib.Core.Logic.{◌↔◌}
use Prim.Native.Nat.{ℕ, zero, suc, ◌+◌, ◌*◌, ◌/◌, ◌%◌, ◌<◌}
use native.Mathlib.Omega.{arith}
use Rattle.octets.specs.Xor.{◌⊕◌}
use Rattle.octets.proofs.Xor.{⊕-eq, ⊕-self, ⊕-lt}
use Rattle.field.specs.Gf.{◌⊗◌, fmul, lift}
use Rattle.field.specs.Vec.{sum}
use Rattle.field.proofs.Linear.{Additive}
use Rattle.field.proofs.Field.{K·ring, ⊗-⊕-l, fmul-lt, lift-⊕, lift-mul}
use Rattle.field.proofs.Sum.{sum_lt, sum-⊕, sum-map}
use Rattle.algebra.specs.Line.{Equation, form_of, form, Solves}
use Rattle.algebra.specs.Pack.{pack, packed, SolvesF, Independent, Basis, OverK, part_of}

pub form_f-lt : (n : ℕ) (e : Equation) (x : ℕ → ℕ) → form_of fmul n e x < 16
form_f-lt n e x = ⊕-lt 4 (sum_lt 4 n _ (λ i h. fmul-lt _ _)) (sum_lt 4 n _ (λ i h. fmul-lt _ _))

module _ (β γ : ℕ) where
  pub pack-⊕ : (a b c d : ℕ) → pack β γ (a ⊕ c) (b ⊕ d) ≡ pack β γ a b ⊕ pack β γ c d
  pack-⊕ a b c d = rw (lift-⊕ a c, lift-⊕ b d) (simp K·ring)

  pub pack-⊗ : (a b x : ℕ) → pack β γ (fmul a x) (fmul b x) ≡ pack β γ a b ⊗ lift x
  pack-⊗ a b x = rw (lift-mul a x, lift-mul b x) (simp K·ring)

  pub pack-sum : (n : ℕ) (f g : ℕ → ℕ) → pack β γ (sum n f) (sum n g) ≡ sum n (λ i. pack β γ (f i) (g i))
  pack-sum n f g =
      ap₂ ◌⊕◌ (sum-map (λ a. lift a ⊗ β) (additive β) n f) (sum-map (λ a. lift a ⊗ γ) (additive γ) n g)
      ∙ sym (sum-⊕ n (λ i. lift (f i) ⊗ β) (λ i. lift (g i) ⊗ γ))
    where
      additive : (c : ℕ) → Additive (λ a. lift a ⊗ c)
      additive c a b = ap (◌⊗ c) (lift-⊕ a b) ∙ ⊗-⊕-l (lift a) (lift b) c

  -- the form of the packed equation at an x of F is the two forms, packed
  pub packed-form : (n : ℕ) (e f : Equation) (x : ℕ → ℕ)
      → form n (packed β γ e f) (λ k. lift (x k)) ≡ pack β γ (form_of fmul n e x) (form_of fmul n f x)
  packed-form n e f x =
      sym
      (pack-⊕ _ _ _ _
      ∙ ap₂ ◌⊕◌
      (pack-sum n _ _
      ∙ ap (sum n) (fun_ext (λ j. pack-⊗ _ _ (x j) ∙ ap (◌⊗ lift (x j)) (pack-sum (suc j) _ _ ∙ ap (sum (suc j)) (fun_ext (λ k. pack-⊗ _ _ (x k)))))))
      (pack-sum n _ _ ∙ ap (sum n) (fun_ext (λ j. pack-⊗ _ _ (x j)))))

module _ (β γ : ℕ) (ind : Independent β γ) where
  pub pack-injective : (a b c d : ℕ) → a < 16 → b < 16 → c < 16 → d < 16 → pack β γ a b ≡ pack β γ c d → (a ≡ c) × (b ≡ d)
  pack-injective a b c d ha hb hc hd q =
      (⊕-eq a c both_zero.0, ⊕-eq b d both_zero.1)
    where
      both_zero : (a ⊕ c ≡ 0) × (b ⊕ d ≡ 0)
      both_zero = ind (a ⊕ c) (b ⊕ d) (⊕-lt 4 ha hc) (⊕-lt 4 hb hd) (pack-⊕ β γ a b c d ∙ ap (◌⊕ pack β γ c d) q ∙ ⊕-self (pack β γ c d))

  -- two equations
  pub packed-solves : (n : ℕ) (e f : Equation) (x : ℕ → ℕ) → e.y < 16 → f.y < 16
      → Solves n (packed β γ e f) (λ k. lift (x k)) ↔ (SolvesF n e x × SolvesF n f x)
  packed-solves n e f x he hf = (
    λ h. pack-injective _ _ _ _ (form_f-lt n e x) (form_f-lt n f x) he hf (sym (packed-form β γ n e f x) ∙ h),
    λ h. packed-form β γ n e f x ∙ ap₂ (pack β γ) h.0 h.1,
  )

  -- 2 m of them, packed into m
  pub packed-system : (n m : ℕ) (e : ℕ → Equation) (x : ℕ → ℕ) → ((i : ℕ) → i < 2 * m → (e i).y < 16)
      → ((q : ℕ) → q < m → Solves n (packed β γ (e (2 * q)) (e (2 * q + 1))) (λ k. lift (x k)))
      ↔ ((i : ℕ) → i < 2 * m → SolvesF n (e i) x)
  packed-system n m e x hy = (
    λ h i hi. member i (both h (i / 2) (omega arith)),
    λ h q hq.
        (packed-solves n (e (2 * q)) (e (2 * q + 1)) x (hy (2 * q) (omega arith)) (hy (2 * q + 1) (omega arith))).1
        (h (2 * q) (omega arith), h (2 * q + 1) (omega arith)),
  )
    where
      both : ((q : ℕ) → q < m → Solves n (packed β γ (e (2 * q)) (e (2 * q + 1))) (λ k. lift (x k)))
          → (q : ℕ) → q < m → SolvesF n (e (2 * q)) x × SolvesF n (e (2 * q + 1)) x
      both h q hq =
          (packed-solves n (e (2 * q)) (e (2 * q + 1)) x (hy (2 * q) (omega arith)) (hy (2 * q + 1) (omega arith))).0 (h q hq)

      member : (i : ℕ) → SolvesF n (e (2 * (i / 2))) x × SolvesF n (e (2 * (i / 2) + 1)) x → SolvesF n (e i) x
      member i h = go (i % 2) refl
        where
          go : (b : ℕ) → i % 2 ≡ b → SolvesF n (e i) x
          go zero q = let even : 2 * (i / 2) ≡ i = omega arith in subst (λ (j : ℕ). SolvesF n (e j) x) even h.0
          go (suc zero) q = let odd : 2 * (i / 2) + 1 ≡ i = omega arith in subst (λ (j : ℕ). SolvesF n (e j) x) odd h.1
          go (suc (suc b)) q = absurd (omega arith)

-- ---- from the packed side: an equation over K is its two parts, packed

module _ (β γ : ℕ) (B : Basis β γ) where
  pub parts-packed : (e : Equation) → OverK e → packed β γ (part_of B.first e) (part_of B.second e) ≡ e
  parts-packed e h = λ i. record {
    A = λ j k. B.spans (e.A j k) (h.A-lt j k) i;
    b = λ k. B.spans (e.b k) (h.b_lt k) i;
    y = B.spans e.y h.y-lt i;
  }

  pub parts-solve : (n : ℕ) (e : Equation) (x : ℕ → ℕ) → OverK e
      → Solves n e (λ k. lift (x k)) ↔ (SolvesF n (part_of B.first e) x × SolvesF n (part_of B.second e) x)
  parts-solve n e x h =
      subst (λ (e' : Equation). Solves n e' (λ k. lift (x k)) ↔ (SolvesF n (part_of B.first e) x × SolvesF n (part_of B.second e) x))
      (parts-packed e h)
      (packed-solves β γ B.independent n (part_of B.first e) (part_of B.second e) x (B.first-lt e.y) (B.second_lt e.y))

  -- m of them
  pub parts-system : (n m : ℕ) (e : ℕ → Equation) (x : ℕ → ℕ) → ((q : ℕ) → q < m → OverK (e q))
      → ((q : ℕ) → q < m → Solves n (e q) (λ k. lift (x k)))
      ↔ ((q : ℕ) → q < m → SolvesF n (part_of B.first (e q)) x × SolvesF n (part_of B.second (e q)) x)
  parts-system n m e x h = (
    λ s q hq. (parts-solve n (e q) x (h q hq)).0 (s q hq),
    λ s q hq. (parts-solve n (e q) x (h q hq)).1 (s q hq),
  )
