-- The formula of a written tree in a sense, and by induction on the tree that it says what the tree says, or the
-- opposite, on words that repeat, where each operand can be decided. Assumes nothing.
use Prim.Native.Nat.{ℕ, suc, ◌+◌, ◌-◌, ◌/◌, ◌%◌, ◌^◌, ◌<◌, ◌≤◌}
use mathlib.Core.Path.{◌≡◌}
use mathlib.Core.Bool.{Bool, true, false, cond, not}
use mathlib.Core.Logic.Dec
use mathlib.Core.Logic.Iff
use mathlib.Core.Logic.{◌⊎◌, inl, inr, ◌↔◌, ⊎_map}
use native.Mathlib.Omega.{arith}
use Rattle.formula.specs.Formula.{Formula, bottom, top, build}
use Rattle.formula.specs.Satisfaction.{Holds}
use Rattle.lasso.proofs.Positions.{Decided, some_dec}
use Rattle.formula.proofs.Periodic.{Until, Release, holds_dec}
use Rattle.normalform.specs.Written.{and, or, until, release, implies, Written, constant, literal}
use Rattle.normalform.specs.Written.{negation, next, binary, future, HoldsWritten}
use Rattle.normalform.specs.NormalForm.{turned, left_sense, connective_kind, left_constant, future_kind, pair_code}

abbrev pub constant_form : Bool → Formula
constant_form v = cond v top bottom

-- the formula of a tree in a sense, where at has the numbers of the codes
abbrev pub form : (at : ℕ → ℕ) → Written → Bool → Formula
form at (constant v) s = constant_form (turned v s)
form at (literal n v p) s = build (cond (turned v s) 2 3) (at (pair_code n s)) p bottom bottom
form at (negation n a) s = form at a (not s)
form at (next n a) s = build 6 (at (pair_code n s)) 0 (form at a s) bottom
form at (binary n o a b) s =
    build (connective_kind o s) (at (pair_code n s)) 0 (form at a (left_sense o s)) (form at b s)
form at (future n all a) s =
    build (future_kind (left_constant all s)) (at (pair_code n s)) 0 (constant_form (left_constant all s)) (form at a s)

-- what is said in a sense
abbrev Said : Bool → Type 0 → Type 0
Said false A = A
Said true A = A → ⊥

-- two properties of positions that say the same everywhere
abbrev Same : (P Q : ℕ → Type 0) → Type 0
Same P Q = (i : ℕ) → P i ↔ Q i

abbrev Not : (ℕ → Type 0) → ℕ → Type 0
Not P i = P i → ⊥

stable : {A : Type 0} → Dec A → ((A → ⊥) → ⊥) → A
stable d = (Dec.not-not d).0

pub either_same : {A B C D : Type 0} → A ↔ C → B ↔ D → (A ⊎ B) ↔ (C ⊎ D)
either_same x y = (⊎_map x.0 y.0, ⊎_map x.1 y.1)

-- ---- until and release of two properties of positions, by what says the same as they or their opposites
module _ (P Q P' Q' : ℕ → Type 0) where
  module _ (p : Same P' P) (q : Same Q' Q) where
    pub until_same : Same (Until P' Q') (Until P Q)
    until_same i = (
      λ (k, l, h, f). (k, l, (q k).0 h, λ j a b. (p j).0 (f j a b)),
      λ (k, l, h, f). (k, l, (q k).1 h, λ j a b. (p j).1 (f j a b)),
    )

    pub release_same : Same (Release P' Q') (Release P Q)
    release_same i = (
      λ h k l. ⊎_map (q k).0 (λ x. (x.0, x.1, x.2, (p x.0).0 x.3)) (h k l),
      λ h k l. ⊎_map (q k).1 (λ x. (x.0, x.1, x.2, (p x.0).1 x.3)) (h k l),
    )

  module _ (dp : Decided P) (dq : Decided Q) (p : Same P' (Not P)) (q : Same Q' (Not Q)) where
    until_not : Same (Release P' Q') (Not (Until P Q))
    until_not i = (
      λ h (k, l, b, f). elim (h k l) [ inl x ↦ (q k).0 x b | inr x ↦ (p x.0).0 x.3 (f x.0 x.1 x.2) ],
      λ h k l. pick h k l (dq k) (some_dec (Not P) (λ j. Dec.not (dp j)) (k - i) i),
    )
      where
        pick : Not (Until P Q) i → (k : ℕ) → i ≤ k → Dec (Q k)
            → Dec ((j : ℕ) × (i ≤ j) × (j < i + (k - i)) × Not P j) → Q' k ⊎ ((j : ℕ) × (i ≤ j) × (j < k) × P' j)
        pick h k l (no x) r = inl ((q k).1 x)
        pick h k l (yes x) (yes (j, a, b, y)) = inr (j, a, omega arith, (p j).1 y)
        pick h k l (yes x) (no r) = absurd (h (k, l, x, λ j a b. stable (dp j) (λ y. r (j, a, omega arith, y))))

    release_not : Decided (Until P' Q') → Same (Until P' Q') (Not (Release P Q))
    release_not du i = (
      λ (k, l, b, f) h. elim (h k l) [ inl x ↦ (q k).0 b x | inr x ↦ (p x.0).0 (f x.0 x.1 x.2) x.3 ],
      λ h. stable (du i) (λ u. h (λ k l. pick u k l (dq k) (some_dec P dp (k - i) i))),
    )
      where
        pick : Not (Until P' Q') i → (k : ℕ) → i ≤ k → Dec (Q k)
            → Dec ((j : ℕ) × (i ≤ j) × (j < i + (k - i)) × P j) → Q k ⊎ ((j : ℕ) × (i ≤ j) × (j < k) × P j)
        pick u k l (yes x) r = inl x
        pick u k l (no x) (yes (j, a, b, y)) = inr (j, a, omega arith, y)
        pick u k l (no x) (no r) = absurd (u (k, l, (q k).1 x, λ j a b. (p j).1 (λ y. r (j, a, omega arith, y))))

both_not : {A B C D : Type 0} → Dec A → C ↔ (A → ⊥) → D ↔ (B → ⊥) → (C ⊎ D) ↔ (A × B → ⊥)
both_not {A = A} {B = B} {C = C} {D = D} d x y = (
  λ h (a, b). elim h [ inl c ↦ x.0 c a | inr e ↦ y.0 e b ],
  λ h. pick h d,
)
  where
    pick : (A × B → ⊥) → Dec A → C ⊎ D
    pick h (yes a) = inr (y.1 (λ b. h (a, b)))
    pick h (no a) = inl (x.1 a)

-- ---- on a word that repeats from s on with period n
module _ (s n : ℕ) (pos : 0 < n) (w : ℕ → ℕ) (round : (i : ℕ) → s ≤ i → w (i + n) ≡ w i) (at : ℕ → ℕ) where
  abbrev plain : Written → ℕ → Type 0
  plain t = Holds w (form at t false)

  abbrev negated : Written → ℕ → Type 0
  negated t = Holds w (form at t true)

  abbrev written : Written → ℕ → Type 0
  written t = HoldsWritten w t

  abbrev Says : Written → Bool → Type 0
  Says t g = Same (Holds w (form at t g)) (λ i. Said g (written t i))

  written_dec : (t : Written) → Says t false → Decided (written t)
  written_dec t h i = Dec.of_iff (h i) (holds_dec s n pos w round (form at t false) i)

  literal_turned : (x : ℕ) → x % 2 ≡ 0 ↔ (x % 2 ≡ 1 → ⊥)
  literal_turned x = (λ e f. omega arith, λ f. let z : (x % 2 ≡ 1 → ⊥) = f in omega arith)

  literal_back : (x : ℕ) → x % 2 ≡ 1 ↔ (x % 2 ≡ 0 → ⊥)
  literal_back x = (λ e f. omega arith, λ f. omega arith)

  pub says : (t : Written) (g : Bool) → Says t g
  says (constant true) false i = Iff.rfl
  says (constant true) true i = (λ h f. h, λ f. f tt)
  says (constant false) false i = Iff.rfl
  says (constant false) true i = (λ h f. f, λ f. tt)
  says (literal c true p) false i = Iff.rfl
  says (literal c true p) true i = literal_turned (w i / 2 ^ p)
  says (literal c false p) false i = Iff.rfl
  says (literal c false p) true i = literal_back (w i / 2 ^ p)
  says (negation c a) false i = says a true i
  says (negation c a) true i = (
    λ h f. f ((says a false i).0 h),
    λ f. (says a false i).1 (stable (written_dec a (says a false) i) f),
  )
  says (next c a) false i = says a false (suc i)
  says (next c a) true i = says a true (suc i)
  says (binary c and a b) false i = Iff.and (says a false i) (says b false i)
  says (binary c and a b) true i = both_not (written_dec a (says a false) i) (says a true i) (says b true i)
  says (binary c or a b) false i = either_same (says a false i) (says b false i)
  says (binary c or a b) true i = (
    λ h f. elim f [ inl x ↦ (says a true i).0 h.0 x | inr x ↦ (says b true i).0 h.1 x ],
    λ f. ((says a true i).1 (λ x. f (inl x)), (says b true i).1 (λ x. f (inr x))),
  )
  says (binary c until a b) false i =
      until_same (written a) (written b) (plain a) (plain b) (says a false) (says b false) i
  says (binary c until a b) true i =
      until_not (written a) (written b) (negated a) (negated b) (written_dec a (says a false))
      (written_dec b (says b false)) (says a true) (says b true) i
  says (binary c release a b) false i =
      release_same (written a) (written b) (plain a) (plain b) (says a false) (says b false) i
  says (binary c release a b) true i =
      release_not (written a) (written b) (negated a) (negated b) (written_dec a (says a false))
      (written_dec b (says b false)) (says a true) (says b true)
      (holds_dec s n pos w round (form at (binary c release a b) true)) i
  says (binary c implies a b) false i = either_same (says a true i) (says b false i)
  says (binary c implies a b) true i = (
    λ h f. elim f [ inl x ↦ x ((says a false i).0 h.0) | inr x ↦ (says b true i).0 h.1 x ],
    λ f. (
      (says a false i).1 (stable (written_dec a (says a false) i) (λ x. f (inl x))),
      (says b true i).1 (λ x. f (inr x)),
    ),
  )
  says (future c true a) false i = (
    λ h k l. elim (h k l) [ inl x ↦ (says a false k).0 x | inr x ↦ absurd x.3 ],
    λ h k l. inl ((says a false k).1 (h k l)),
  )
  says (future c true a) true i = (
    λ (k, l, x, f) h. (says a true k).0 x (h k l),
    λ h. stable (holds_dec s n pos w round (form at (future c true a) true) i)
        (λ u. h (λ k l. stable (written_dec a (says a false) k) (λ x. u (k, l, (says a true k).1 x, λ j b d. tt)))),
  )
  says (future c false a) false i = (
    λ (k, l, x, f). (k, l, (says a false k).0 x),
    λ (k, l, x). (k, l, (says a false k).1 x, λ j b d. tt),
  )
  says (future c false a) true i = (
    λ h (k, l, x). elim (h k l) [ inl y ↦ (says a true k).0 y x | inr y ↦ y.3 ],
    λ h k l. inl ((says a true k).1 (λ x. h (k, l, x))),
  )
