-- The first letters of two words: they agree exactly where each does; and the loop that follows both lassos position by
-- position. Assumes nothing, but where it is said that the cycle has a letter.
use Prim.Native.Nat.{ℕ, zero, suc, ◌+◌, ◌<◌}
use mathlib.Core.Path.{◌≡◌, refl, sym, ◌∙◌, ap}
use mathlib.Core.List.{List}
use mathlib.Core.Bool.{Bool, true, false, and-eq-true_iff}
use native.Mathlib.Omega.{arith}
use native.Mathlib.Numerals.{add-one}
use native.Mathlib.Decide.{ℕ_discrete}
use lib.ListN.{length}
use lib.Dec.{eqb}
use borrow.Author.Tests.{eqb-true, eq-eqb}
use Rattle.lasso.specs.Lasso.{letter, after}
use Rattle.lasso.proofs.Letters.{after_small}
use Rattle.rest.proofs.Points.{onto, letter_onto}
use Rattle.sameword.specs.Words.{agree}

module _ (word other : ℕ → ℕ) where
  pub agree_each : (n : ℕ) → agree word other n ≡ true → (i : ℕ) → i < n → word i ≡ other i
  unfolding agree
  agree_each zero e i lt = absurd (omega arith)
  agree_each (suc n) e i lt =
      let both = (and-eq-true_iff (agree word other n) (eqb (word n) (other n))).0 e in
      go both.1 (agree_each n both.0 i) (ℕ_discrete i n)
    where
      go : eqb (word n) (other n) ≡ true → (i < n → word i ≡ other i) → Dec (i ≡ n) → word i ≡ other i
      go last below (yes same) = rw same (eqb-true (word n) (other n) last)
      go last below (no less) = below (omega arith)

  pub each_agree : (n : ℕ) → ((i : ℕ) → i < n → word i ≡ other i) → agree word other n ≡ true
  unfolding agree
  each_agree zero same = refl
  each_agree (suc n) same =
      rw (each_agree n (λ i lt. same i (omega arith))) (eq-eqb (word n) (other n) (same n (omega arith)))

  -- one letter that differs is enough
  pub agree_not : (n i : ℕ) → i < n → (word i ≡ other i → ⊥) → false ≡ agree word other n
  agree_not n i lt differ = go (agree word other n) refl
    where
      go : (b : Bool) → agree word other n ≡ b → false ≡ b
      go true e = absurd (differ (agree_each n e i lt))
      go false e = refl

-- ---- a lasso that is followed: after i letters it stands at this position

pub record Stands (stem cycle : List ℕ) (at i : ℕ) : Type 0 where
  pub is : at ≡ onto stem cycle i
  pub within : at < length stem + length cycle
  pub reads : letter stem cycle at ≡ letter stem cycle i

module _ (stem cycle : List ℕ) (some : 0 < length cycle) where
  stands : {at : ℕ} (i : ℕ) → at ≡ onto stem cycle i → Stands stem cycle at i
  unfolding onto
  stands {at} i e = record {
    is = e;
    within = rw e (go i);
    reads = ap (letter stem cycle) e ∙ letter_onto stem cycle some i;
  }
    where
      go : (i : ℕ) → onto stem cycle i < length stem + length cycle
      go zero = omega arith
      go (suc i) = after_small stem cycle some (onto stem cycle i)

  stands_first : Stands stem cycle 0 0
  unfolding onto
  stands_first = stands 0 refl

  stands_next : {at next i : ℕ} → Stands stem cycle at i → next ≡ after stem cycle at → Stands stem cycle next (i + 1)
  unfolding onto
  stands_next {i = i} s e =
      stands (i + 1) (e ∙ ap (after stem cycle) s.is ∙ ap (onto stem cycle) (sym (add-one i)))

-- ---- two that are followed together

-- the loop over the letters of two lassos that stands at i: each is at its position, and the letters before i agree
pub record Following (stem cycle otherStem otherCycle : List ℕ) (at otherAt i : ℕ) : Type 0 where
  pub first : Stands stem cycle at i
  pub second : Stands otherStem otherCycle otherAt i
  pub so_far : agree (letter stem cycle) (letter otherStem otherCycle) i ≡ true

module _ (stem cycle otherStem otherCycle : List ℕ) where
  pub follow_begins : 0 < length cycle → 0 < length otherCycle → Following stem cycle otherStem otherCycle 0 0 0
  unfolding agree
  follow_begins some some-other = record {
    first = stands_first stem cycle some;
    second = stands_first otherStem otherCycle some-other;
    so_far = refl;
  }

  pub follow_differs : {at otherAt i : ℕ} (n : ℕ) → i < n → Following stem cycle otherStem otherCycle at otherAt i
      → (letter stem cycle at ≡ letter otherStem otherCycle otherAt → ⊥)
      → false ≡ agree (letter stem cycle) (letter otherStem otherCycle) n
  follow_differs {i = i} n lt inv differ =
      agree_not _ _ n i lt (λ same. differ (inv.first.reads ∙ same ∙ sym inv.second.reads))

  pub follow_steps : {at otherAt next otherNext i : ℕ} → 0 < length cycle → 0 < length otherCycle
      → Following stem cycle otherStem otherCycle at otherAt i
      → letter stem cycle at ≡ letter otherStem otherCycle otherAt
      → next ≡ after stem cycle at → otherNext ≡ after otherStem otherCycle otherAt
      → Following stem cycle otherStem otherCycle next otherNext (i + 1)
  unfolding agree
  follow_steps some some-other inv same e f = record {
    first = stands_next stem cycle some inv.first e;
    second = stands_next otherStem otherCycle some-other inv.second f;
    so_far = rw (add-one, inv.so_far) (eq-eqb _ _ (sym inv.first.reads ∙ same ∙ inv.second.reads));
  }
