-- Where a clause is broken: what the searches over the flags find is so by the meaning of rules. Assumes of the lasso
-- that its cycle has a letter.
use Prim.Native.Nat.{ℕ, zero, suc, ◌+◌, ◌<◌, ◌≤◌}
use mathlib.Core.Path.{◌≡◌, refl, sym, ◌∙◌, ap, subst}
use mathlib.Core.Logic.{◌⊎◌, inl, inr, ◌↔◌}
use mathlib.Core.List.{List}
use Rattle.std.specs.Prelude.{Option, None as none, Some as some}
use mathlib.Core.Bool.{Bool, true, false, not, ◌&&◌, true≢false, and-eq-true_iff}
use native.Mathlib.Omega.{arith}
use native.Mathlib.Decide.{ℕ_discrete}
use lib.ListN.{length}
use borrow.Author.Tests.{not-true}
use Rattle.formula.specs.Rule.{left_at, right_at}
use Rattle.formula.specs.Formula.{Formula, until, release, tree}
use Rattle.formula.specs.Satisfaction.{Holds}
use Rattle.lasso.specs.Lasso.{letter}
use Rattle.formula.proofs.Periodic.{Until, Repeats, not_repeats}
use Rattle.evaluate.specs.Truth.{true_at}
use Rattle.sets.specs.Sets.{any_below}
use Rattle.explain.specs.Explain.{first_from, left, right, release_break, until_break}
use Rattle.explain.specs.Meaning.{Exposed, BothFail, FirstAt}
use Rattle.evaluate.proofs.Untils.{early}
use Rattle.evaluate.proofs.Rows.{true_iff_holds, release_iff, repeats, decided}
use Rattle.explain.proofs.Searches.{Found, from_some, from_none, below_false, false_below}

-- a search that finds nothing, or something
search : (test : ℕ → Bool) (i count : ℕ)
    → (first_from test i count ≡ none) ⊎ ((k : ℕ) × (first_from test i count ≡ some k))
search test i count = go (first_from test i count) refl
  where
    go : (r : Option ℕ) → first_from test i count ≡ r
        → (first_from test i count ≡ none) ⊎ ((k : ℕ) × (first_from test i count ≡ some k))
    go none e = inl e
    go (some k) e = inr (k, e)

-- of P and Q one holds at each position before one with Q: then P holds until Q
come : (P Q : ℕ → Type 0) → ((i : ℕ) → Dec (P i)) → ((i : ℕ) → Dec (Q i)) → (d p : ℕ) → Q (p + d)
    → ((j : ℕ) → j < p + d → (P j → ⊥) × (Q j → ⊥) → ⊥) → Until P Q p
come P Q dp dq zero p q h =
    (p, omega arith, (let e : p + 0 ≡ p = omega arith in subst Q e q), λ j a b. absurd (omega arith))
come P Q dp dq (suc d) p q h =
    let e : p + suc d ≡ suc p + d = omega arith in
    go (come P Q dp dq d (suc p) (subst Q e q) (λ j l. h j (omega arith))) (dq p) (dp p)
  where
    go : Until P Q (suc p) → Dec (Q p) → Dec (P p) → Until P Q p
    go u (yes x) y = (p, omega arith, x, λ j a b. absurd (omega arith))
    go u (no x) (no y) = absurd (h p (omega arith) (y, x))
    go (k, l, x, f) (no z) (yes y) = (k, omega arith, x, λ j a b. pick j a b (ℕ_discrete p j))
      where
        pick : (j : ℕ) → p ≤ j → j < k → Dec (p ≡ j) → P j
        pick j a b (yes g) = subst P g y
        pick j a b (no g) = f j (omega arith) b

module _ (rule stem cycle : List ℕ) (pos : 0 < length cycle) where
  abbrev s : ℕ
  s = length stem

  abbrev n : ℕ
  n = length cycle

  abbrev w : ℕ → ℕ
  w = letter stem cycle

  -- a flag that is not set
  pub false_iff : (k i : ℕ) → i < s + n → true_at rule stem cycle k i ≡ false ↔ (Holds w (tree rule k) i → ⊥)
  false_iff k i l = (
    λ e h. true≢false (sym ((true_iff_holds stem cycle pos rule k i l).1 h) ∙ e),
    λ d. go (true_at rule stem cycle k i) refl d,
  )
    where
      go : (b : Bool) → true_at rule stem cycle k i ≡ b → (Holds w (tree rule k) i → ⊥) → b ≡ false
      go true e d = absurd (d ((true_iff_holds stem cycle pos rule k i l).0 e))
      go false e d = refl

  not_iff : (k i : ℕ) → i < s + n → not (true_at rule stem cycle k i) ≡ true ↔ (Holds w (tree rule k) i → ⊥)
  not_iff k i l =
      (λ e. (false_iff k i l).0 (not-true (true_at rule stem cycle k i) e), λ d. ap not ((false_iff k i l).1 d))

  module _ (c : ℕ) where
    abbrev f : Formula
    f = tree rule (left_at rule c)

    abbrev g : Formula
    g = tree rule (right_at rule c)

    -- ---- release

    exposed_iff : (i : ℕ) → i < s + n
        → (not (right rule stem cycle c i) && not (any_below (left rule stem cycle c) i)) ≡ true ↔ Exposed w f g i
    exposed_iff i l = (
      λ e.
          let (x, y) = (and-eq-true_iff (not (right rule stem cycle c i)) _).0 e in (
            (not_iff (right_at rule c) i l).0 x,
            λ j m. (false_iff (left_at rule c) j (omega arith)).0
                (below_false (left rule stem cycle c) i (not-true _ y) j m),
          ),
      λ (x, y).
          (and-eq-true_iff (not (right rule stem cycle c i)) _).1 (
            (not_iff (right_at rule c) i l).1 x,
            ap not
                (false_below (left rule stem cycle c) i
                (λ j m. (false_iff (left_at rule c) j (omega arith)).1 (y j m))),
          ),
    )

    -- what is found is the first position that is exposed
    pub release_found : (i : ℕ) → release_break rule stem cycle c ≡ some i → (i < s + n) × FirstAt (Exposed w f g) i
    unfolding release_break
    release_found i e = told (from_some _ 0 (s + n) i e)
      where
        told : Found (λ i. not (right rule stem cycle c i) && not (any_below (left rule stem cycle c) i)) 0 (s + n) i
            → (i < s + n) × FirstAt (Exposed w f g) i
        told t =
            let l : i < s + n = omega (arith, t.below) in (
              l,
              record {
                here = (exposed_iff i l).0 t.here;
                first = λ j m x. true≢false (sym ((exposed_iff j (omega arith)).1 x) ∙ t.first j (omega arith) m);
              },
            )

    -- where none is found there is none, however late
    pub release_none : release_break rule stem cycle c ≡ none → (i : ℕ) → Exposed w f g i → ⊥
    unfolding release_break
    release_none e i (x, y) =
        let (k, l, m, q, h) =
        early s n pos (λ j. Holds w f j → ⊥) (λ j. Holds w g j → ⊥)
        (not_repeats s n pos (Holds w g) (repeats stem cycle pos g)) 0
        (omega arith) (i, omega arith, x, λ j a b. y j b) in
        true≢false
        (sym ((exposed_iff k m).1 (q, λ j b. h j (omega arith) b)) ∙ from_none _ 0 (s + n) e k (omega arith)
        (omega arith))

    -- a release is broken at position 0 exactly if one is found
    pub release_broken_iff : (Holds w (release c f g) 0 → ⊥) ↔ ((i : ℕ) × (release_break rule stem cycle c ≡ some i))
    unfolding release_break
    release_broken_iff = (
      λ broken. elim
          (search (λ i. not (right rule stem cycle c i) && not (any_below (left rule stem cycle c) i)) 0 (s + n)) [
            | inl e ↦ absurd
                (broken
                ((release_iff stem cycle pos c f g 0).1
                (λ (k, l, q, h). release_none e k (q, λ j b. h j (omega arith) b))))
            | inr r ↦ r
          ],
      λ (i, e) h.
          let (l, t) = release_found i e in
          (release_iff stem cycle pos c f g 0).0 h (i, omega arith, t.here.0, λ j a b. t.here.1 j b),
    )

    -- ---- until

    both_iff : (i : ℕ) → i < s + n
        → (not (left rule stem cycle c i) && not (right rule stem cycle c i)) ≡ true ↔ BothFail w f g i
    both_iff i l = (
      λ e. let (x, y) =
          (and-eq-true_iff (not (left rule stem cycle c i)) _).0 e in
          ((not_iff (left_at rule c) i l).0 x, (not_iff (right_at rule c) i l).0 y),
      λ (x, y). (and-eq-true_iff (not (left rule stem cycle c i)) _).1
          ((not_iff (left_at rule c) i l).1 x, (not_iff (right_at rule c) i l).1 y),
    )

    both_repeats : Repeats s n pos (BothFail w f g)
    both_repeats i l =
        let x = not_repeats s n pos (Holds w f) (repeats stem cycle pos f) i l in
        let y = not_repeats s n pos (Holds w g) (repeats stem cycle pos g) i l in
        (λ (a, b). (x.0 a, y.0 b), λ (a, b). (x.1 a, y.1 b))

    -- what is found is the first position where both sides fail
    pub until_found : (i : ℕ) → until_break rule stem cycle c ≡ some i → (i < s + n) × FirstAt (BothFail w f g) i
    unfolding until_break
    until_found i e = told (from_some _ 0 (s + n) i e)
      where
        told : Found (λ i. not (left rule stem cycle c i) && not (right rule stem cycle c i)) 0 (s + n) i
            → (i < s + n) × FirstAt (BothFail w f g) i
        told t =
            let l : i < s + n = omega (arith, t.below) in (
              l,
              record {
                here = (both_iff i l).0 t.here;
                first = λ j m x. true≢false (sym ((both_iff j (omega arith)).1 x) ∙ t.first j (omega arith) m);
              },
            )

    -- where none is found there is none, however late
    pub until_none : until_break rule stem cycle c ≡ none → (i : ℕ) → BothFail w f g i → ⊥
    unfolding until_break
    until_none e i x =
        let (k, l, m, q, h) =
        early s n pos (λ j. Unit {0}) (BothFail w f g) both_repeats 0 (omega arith) (i, omega arith, x, λ j a b. tt) in
        true≢false (sym ((both_iff k m).1 q) ∙ from_none _ 0 (s + n) e k (omega arith) (omega arith))

    module _ (broken : Holds w (until c f g) 0 → ⊥) where
      -- the right side does not come while one of both holds at each position before
      never_yet : (k : ℕ) → ((j : ℕ) → j < k → BothFail w f g j → ⊥) → Holds w g k → ⊥
      never_yet k h q =
          let e : k ≡ 0 + k = omega arith in
          broken
          (come (Holds w f) (Holds w g) (decided stem cycle pos f) (decided stem cycle pos g) k 0
          (subst (Holds w g) e q)
          (λ j l. h j (omega arith)))

      holds_left : (k : ℕ) → (Holds w g k → ⊥) → (BothFail w f g k → ⊥) → Holds w f k
      holds_left k d b = go (decided stem cycle pos f k)
        where
          go : Dec (Holds w f k) → Holds w f k
          go (yes x) = x
          go (no x) = absurd (b (x, d))

      -- up to the position found the left side holds, and the right side has not come
      pub until_before : (i : ℕ) → until_break rule stem cycle c ≡ some i → (j : ℕ) → j < i
          → Holds w f j × (Holds w g j → ⊥)
      until_before i e j l =
          let (m, t) = until_found i e in
          let d : Holds w g j → ⊥ = never_yet j (λ k x. t.first k (omega arith)) in
          (holds_left j d (t.first j l), d)

      -- where none is found the right side never comes, and the left side holds for ever
      pub until_never : until_break rule stem cycle c ≡ none → (i : ℕ) → (Holds w g i → ⊥) × Holds w f i
      until_never e i =
          let d : Holds w g i → ⊥ = never_yet i (λ k x. until_none e k) in
          (d, holds_left i d (until_none e i))
