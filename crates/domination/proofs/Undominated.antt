-- The members of a list that none of it dominates: whatever is dominated is dominated by one of these, found by going
-- from what dominates to what dominates that. Assumes of domination that it can be followed on and falls in rank.
use mathlib.Core.Path.{◌≡◌, refl, sym, subst, ap, ◌∙◌}
use mathlib.Core.Logic.{inl, inr}
use mathlib.Core.Bool.{Bool, true, false, cond, not, false≢true}
use mathlib.Core.List.{List, [], ◌∷◌, ◌++◌, map}
use Prim.Native.Nat.{ℕ, zero, suc, ◌≤◌, ◌<◌}
use native.Mathlib.Omega.{arith}
use native.Mathlib.Decide.{dec_lt}
use lib.ListN.{length, get_or, take, drop, length-take, take-append-drop}
use lib.Seq.{get_or-take}
use Rattle.sets.specs.Sets.{In, any}
use Rattle.sets.proofs.Members.{any_iff, any_map, at_in, in_at, in_append}
use Rattle.domination.specs.Domination.{sift, stays, undominated}

-- two tests of which each follows from the other are one
same_answer : (a b : Bool) → (a ≡ true → b ≡ true) → (b ≡ true → a ≡ true) → a ≡ b
same_answer true b there back = sym (there refl)
same_answer false true there back = back refl
same_answer false false there back = refl

-- ---- the members of which a test holds
module _ {A : Type 0} (test : A → Bool) where
  pub sift_in : (x : A) (xs : List A) → In x (sift test xs) → In x xs × (test x ≡ true)
  unfolding sift
  sift_in x [] h = absurd h
  sift_in x (y ∷ ys) h = go (test y) refl h (sift_in x ys)
    where
      go : (b : Bool) → test y ≡ b → In x (cond b (y ∷ sift test ys) (sift test ys))
          → (In x (sift test ys) → In x ys × (test x ≡ true)) → In x (y ∷ ys) × (test x ≡ true)
      go true e (inl q) ih = (inl q, subst (λ (z : A). test z ≡ true) (sym q) e)
      go true e (inr m) ih = let (n, t) = ih m in (inr n, t)
      go false e m ih = let (n, t) = ih m in (inr n, t)

  pub in_sift : (x : A) (xs : List A) → In x xs → test x ≡ true → In x (sift test xs)
  unfolding sift
  in_sift x [] h e = absurd h
  in_sift x (y ∷ ys) h e = go (test y) refl h (λ m. in_sift x ys m e)
    where
      go : (b : Bool) → test y ≡ b → In x (y ∷ ys) → (In x ys → In x (sift test ys))
          → In x (cond b (y ∷ sift test ys) (sift test ys))
      go true f (inl q) ih = inl q
      go true f (inr m) ih = inr (ih m)
      go false f (inl q) ih = absurd (false≢true (sym f ∙ sym (ap test q) ∙ e))
      go false f (inr m) ih = ih m

  pub sift_append : (xs ys : List A) → sift test (xs ++ ys) ≡ sift test xs ++ sift test ys
  unfolding sift
  sift_append [] ys = refl
  sift_append (x ∷ xs) ys = rw (sift_append xs ys) (go (test x))
    where
      go : (b : Bool) → cond b (x ∷ (sift test xs ++ sift test ys)) (sift test xs ++ sift test ys)
          ≡ cond b (x ∷ sift test xs) (sift test xs) ++ sift test ys
      go true = refl
      go false = refl

  pub sift_short : (xs : List A) → length (sift test xs) ≤ length xs
  unfolding sift
  sift_short [] = omega arith
  sift_short (x ∷ xs) = go (test x) (sift_short xs)
    where
      go : (b : Bool) → length (sift test xs) ≤ length xs
          → length (cond b (x ∷ sift test xs) (sift test xs)) ≤ suc (length xs)
      go true le = omega arith
      go false le = omega arith

-- ---- through a map under which a test stays the same
module _ {A B : Type 0} (g : A → B) where
  sift_map : (p : B → Bool) (q : A → Bool) (xs : List A) → ((x : A) → In x xs → p (g x) ≡ q x)
      → sift p (map g xs) ≡ map g (sift q xs)
  unfolding sift
  sift_map p q [] same = refl
  sift_map p q (x ∷ xs) same = rw (same x (inl refl), sift_map p q xs (λ y m. same y (inr m))) (go (q x))
    where
      go : (b : Bool) → cond b (g x ∷ map g (sift q xs)) (map g (sift q xs))
          ≡ map g (cond b (x ∷ sift q xs) (sift q xs))
      go true = refl
      go false = refl

  pub undominated_map : (by : B → B → Bool) (dominates : A → A → Bool) (xs : List A)
      → ((y x : A) → In y xs → In x xs → by (g y) (g x) ≡ dominates y x)
      → undominated by (map g xs) ≡ map g (undominated dominates xs)
  undominated_map by dominates xs same =
      sift_map _ _ xs (λ x m. ap not (any_map g _ (λ y. dominates y x) xs (λ y n. same y x n m)))

-- ---- by any domination
module _ {A : Type 0} (dominates : A → A → Bool) (rank : A → ℕ)
    (falls : (x y : A) → dominates x y ≡ true → rank x < rank y)
    (follows : (x y z : A) → dominates x y ≡ true → dominates y z ≡ true → dominates x z ≡ true) (xs : List A) where
  -- one that none of xs dominates, and that dominates x
  pub record Above (x : A) : Type 0 where
    pub above : A
    pub listed : In above (undominated dominates xs)
    pub holds : dominates above x ≡ true

  above_from : (n : ℕ) (x y : A) → rank y < n → In y xs → dominates y x ≡ true → Above x
  above_from zero x y lt m e = absurd (omega arith)
  above_from (suc n) x y lt m e = go (any (λ z. dominates z y) xs) refl (λ z lt' m' e'. above_from n x z lt' m' e')
    where
      go : (b : Bool) → any (λ z. dominates z y) xs ≡ b
          → ((z : A) → rank z < n → In z xs → dominates z x ≡ true → Above x) → Above x
      go true q further =
          let (z, m', d) = (any_iff (λ z. dominates z y) xs).0 q in
          further z (omega (arith, falls z y d)) m' (follows z y x d e)
      go false q further = record { above = y; listed = in_sift (stays dominates xs) y xs m (ap not q); holds = e }

  -- what one of xs dominates, one of the undominated dominates
  pub dominated_above : (x : A) → any (λ y. dominates y x) xs ≡ true → Above x
  dominated_above x e =
      let (y, m, d) = (any_iff (λ y. dominates y x) xs).0 e in above_from (suc (rank y)) x y (omega arith) m d

  -- where ranks rise along xs, the undominated before place i tell whether the one at i is dominated
  module _ (none : A) (rises : (i j : ℕ) → i < j → j < length xs → rank (get_or xs i none) < rank (get_or xs j none))
    where
      pub dominated_before : (i : ℕ) → i < length xs
          → any (λ y. dominates y (get_or xs i none)) (sift (stays dominates xs) (take i xs))
          ≡ any (λ y. dominates y (get_or xs i none)) xs
      dominated_before i lt = same_answer _ _ there back
        where
          here : A
          here = get_or xs i none

          before : List A
          before = sift (stays dominates xs) (take i xs)

          there : any (λ y. dominates y here) before ≡ true → any (λ y. dominates y here) xs ≡ true
          there e =
              let (y, m, d) = (any_iff (λ y. dominates y here) before).0 e in
              let n = in_append y (take i xs) (drop i xs) (inl (sift_in (stays dominates xs) y (take i xs) m).0) in
              (any_iff (λ y. dominates y here) xs).1 (y, subst (In y) (take-append-drop i xs) n, d)

          earlier : (j : ℕ) → j < length xs → rank (get_or xs j none) < rank here → j < i
          earlier j l fall = go (dec_lt j i) (dec_lt i j)
            where
              go : Dec (j < i) → Dec (i < j) → j < i
              go (yes k) d = k
              go (no k) (yes g) = absurd (omega (arith, rises i j g l))
              go (no k) (no g) =
                  let e : j ≡ i = omega arith in
                  absurd (omega (arith, ap (λ (n : ℕ). rank (get_or xs n none)) e))

          back : any (λ y. dominates y here) xs ≡ true → any (λ y. dominates y here) before ≡ true
          back e =
              let up = dominated_above here e in
              let (m, f) = sift_in (stays dominates xs) up.above xs up.listed in
              let (j, l, q) = in_at none up.above xs m in
              let k = earlier j l (subst (λ (y : A). rank y < rank here) (sym q) (falls up.above here up.holds)) in
              let n = at_in none (take i xs) j (omega (arith, length-take i xs)) in
              let is : get_or (take i xs) j none ≡ up.above = get_or-take i xs j none k ∙ q in
              let before-i = subst (λ (y : A). In y (take i xs)) is n in
              (any_iff (λ y. dominates y here) before).1
              (up.above, in_sift (stays dominates xs) up.above (take i xs) before-i f, up.holds)
