-- Flags that go backwards by the rule of until tell where an until holds, after two rounds: on positions that repeat
-- from s on with period n. Assumes nothing.
use Prim.Native.Nat.{ℕ, zero, suc, ◌+◌, ◌-◌, ◌<◌, ◌≤◌}
use mathlib.Core.Path.{◌≡◌, refl, sym, ◌∙◌, subst}
use mathlib.Core.Logic.{◌⊎◌, inl, inr, ◌↔◌}
use mathlib.Core.Bool.{Bool, true, false, false≢true}
use native.Mathlib.Omega.{arith}
use native.Mathlib.Decide.{ℕ_discrete, dec_lt}
use Rattle.formula.proofs.Periodic.{Until, Repeats, off, until_repeats}

-- u goes backwards by the rule of until, from hi down to lo
pub record Backward (P Q : ℕ → Type 0) (lo hi : ℕ) (u : ℕ → Bool) : Type 0 where
  pub step : (p : ℕ) → lo ≤ p → p < hi → (u p ≡ true) ↔ (Q p ⊎ (P p × (u (suc p) ≡ true)))

module _ (P Q : ℕ → Type 0) (lo hi : ℕ) (u : ℕ → Bool) (backward : Backward P Q lo hi u) where
  -- what it says is so, if that is so at hi
  sound : (u hi ≡ true → Until P Q hi) → (d p : ℕ) → p + d ≡ hi → lo ≤ p → u p ≡ true → Until P Q p
  sound top zero p e l h =
      let q : hi ≡ p = omega arith in subst (Until P Q) q (top (subst (λ (x : ℕ). u x ≡ true) (sym q) h))
  sound top (suc d) p e l h = elim ((backward.step p l (omega arith)).0 h) [
    | inl q ↦ (p, omega arith, q, λ j a b. absurd (omega arith))
    | inr x ↦ longer x.0 (sound top d (suc p) (omega arith) (omega arith) x.1)
  ]
    where
      longer : P p → Until P Q (suc p) → Until P Q p
      longer now (k, m, q, f) = (k, omega arith, q, λ j a b. pick j a b (ℕ_discrete p j))
        where
          pick : (j : ℕ) → p ≤ j → j < k → Dec (p ≡ j) → P j
          pick j a b (yes g) = subst P g now
          pick j a b (no g) = f j (omega arith) b

  -- it says all that is so, if it says it at hi
  complete : (Until P Q hi → u hi ≡ true) → (d p : ℕ) → p + d ≡ hi → lo ≤ p → Until P Q p → u p ≡ true
  complete top zero p e l h =
      let q : p ≡ hi = omega arith in subst (λ (x : ℕ). u x ≡ true) (sym q) (top (subst (Until P Q) q h))
  complete top (suc d) p e l (k, m, q, f) = go (complete top d (suc p) (omega arith) (omega arith)) (ℕ_discrete p k)
    where
      go : (Until P Q (suc p) → u (suc p) ≡ true) → Dec (p ≡ k) → u p ≡ true
      go ih (yes g) = (backward.step p l (omega arith)).1 (inl (subst Q (sym g) q))
      go ih (no g) =
          (backward.step p l (omega arith)).1
          (inr (f p (omega arith) (omega arith), ih (k, omega arith, q, λ j a b. f j (omega arith) b)))

  -- and in any case what comes true below hi
  near : (d p : ℕ) → lo ≤ p → p + d < hi → Q (p + d) → ((j : ℕ) → p ≤ j → j < p + d → P j) → u p ≡ true
  near zero p l m q f = (backward.step p l (omega arith)).1 (inl (let e : p + 0 ≡ p = omega arith in subst Q e q))
  near (suc d) p l m q f =
      let e : p + suc d ≡ suc p + d = omega arith in
      (backward.step p l (omega arith)).1
      (inr (
        f p (omega arith) (omega arith),
        near d (suc p) (omega arith) (omega arith) (subst Q e q)
            (λ j a b. f j (omega arith) (omega arith)),
      ))

module _ (s n : ℕ) (pos : 0 < n) where
  -- an until that holds at a position of the stem, or at the first of the cycle, comes true below s + n
  pub early : (P Q : ℕ → Type 0) → Repeats s n pos Q → (i : ℕ) → i ≤ s → Until P Q i
      → (k : ℕ) × (i ≤ k) × (k < s + n) × Q k × ((j : ℕ) → i ≤ j → j < k → P j)
  early P Q rq i small (k, l, h, f) = go k k (omega arith) l h f
    where
      go : (fuel k : ℕ) → k ≤ fuel → i ≤ k → Q k → ((j : ℕ) → i ≤ j → j < k → P j)
          → (k : ℕ) × (i ≤ k) × (k < s + n) × Q k × ((j : ℕ) → i ≤ j → j < k → P j)
      go zero k m l h f = (k, l, omega arith, h, f)
      go (suc fuel) k m l h f = step (λ k m l h f. go fuel k m l h f) (dec_lt k (s + n))
        where
          step :
              ((k : ℕ) → k ≤ fuel → i ≤ k → Q k → ((j : ℕ) → i ≤ j → j < k → P j) → (k : ℕ) × (i ≤ k) × (k < s + n) × Q
              k × ((j : ℕ) → i ≤ j → j < k → P j))
              → Dec (k < s + n) → (k : ℕ) × (i ≤ k) × (k < s + n) × Q k × ((j : ℕ) → i ≤ j → j < k → P j)
          step ih (yes a) = (k, l, a, h, f)
          step ih (no a) =
              ih (k - n) (omega arith) (omega arith) (off s n pos Q rq (k - n) k (omega arith) (omega arith) h)
              (λ j b c. f j b (omega arith))

  -- two rounds: u over the cycle with false behind it, then v over all with what u says at s behind it
  module _ (P Q : ℕ → Type 0) (rp : Repeats s n pos P) (rq : Repeats s n pos Q) (u v : ℕ → Bool)
      (first : Backward P Q s (s + n) u) (nothing : u (s + n) ≡ false)
      (second : Backward P Q 0 (s + n) v) (again : v (s + n) ≡ u s) where
    once : u s ≡ true ↔ Until P Q s
    once = (
      sound P Q s (s + n) u first (λ e. absurd (false≢true (sym nothing ∙ e))) n s refl (omega arith),
      λ h.
          let (k, l, m, q, f) = early P Q rq s (omega arith) h in
          let e : k ≡ s + (k - s) = omega arith in
          near P Q s (s + n) u first (k - s) s (omega arith) (omega arith) (subst Q e q) (λ j a b. f j a (omega arith)),
    )

    pub two_rounds : (p : ℕ) → p ≤ s + n → v p ≡ true ↔ Until P Q p
    two_rounds p l = (
      sound P Q 0 (s + n) v second (λ e. (until_repeats s n pos P Q rp rq s (omega arith)).0 (once.0 (sym again ∙ e)))
          (s + n - p) p (omega arith) (omega arith),
      complete P Q 0 (s + n) v second (λ h. again ∙ once.1 ((until_repeats s n pos P Q rp rq s (omega arith)).1 h))
          (s + n - p) p (omega arith) (omega arith),
    )
