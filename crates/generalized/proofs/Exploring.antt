-- A walk that numbers what it meets, step by step: a search, a meeting, the targets of a state, a state.
-- Assumes nothing.
use mathlib.Core.Path.{◌≡◌, refl, ◌∙◌}
use mathlib.Core.List.{List, [], ◌∷◌, ◌++◌}
use mathlib.Core.Bool.{Bool}
use Prim.Native.Nat.{ℕ, zero, suc, ◌+◌, ◌≤◌, ◌<◌}
use lib.ListN.{length, get_or}
use borrow.Author.Tests.{lt-ltb, le-ltb}
use Rattle.answer.specs.Result.{Result, accepted, refused, and_then, Check, fine}
use Rattle.generalized.specs.Explore.{find, meet, Numbering, meet_all, Walk, explore}

and_then_on : {A : Type 0} (a : Check) (b : Result A) (next : A → Result A)
    → and_then a (λ _. and_then b next) ≡ and_then (and_then a (λ _. b)) next
and_then_on (accepted u) b next = refl
and_then_on (refused number place) b next = refl

module _ {A : Type 0} (same : A → A → Bool) where
  module _ (limit full place : ℕ) (x : A) (xs : List A) where
    abbrev met : Result (List A)
    met = meet same limit full place x xs

    pub meet_seen : find same x xs < length xs → met ≡ accepted xs
    unfolding meet
    meet_seen lt = rw (lt-ltb (find same x xs) (length xs) lt, meet)

    pub meet_next : length xs ≤ find same x xs → length xs < limit → met ≡ accepted (xs ++ (x ∷ []))
    unfolding meet
    meet_next le lt = rw (le-ltb (find same x xs) (length xs) le, lt-ltb (length xs) limit lt, meet)

    pub meet_full : length xs ≤ find same x xs → limit ≤ length xs → met ≡ refused full place
    unfolding meet
    meet_full le l = rw (le-ltb (find same x xs) (length xs) le, le-ltb (length xs) limit l, meet)

module _ {A : Type 0} (n : Numbering A) where
  pub all_met : (place count : ℕ) (xs : List A) → meet_all n place [] count xs ≡ accepted xs
  unfolding meet_all
  all_met place count xs = refl

  -- the targets of a state, of which y is the next
  module _ (place : ℕ) (y : A) (ys : List A) (count : ℕ) (xs : List A) where
    abbrev all : Result (List A)
    all = meet_all n place (y ∷ ys) count xs

    abbrev first : Result (List A)
    first = meet n.same n.limit n.full place y xs

    pub all_refused : {number at : ℕ} → n.each place count ≡ refused number at → all ≡ refused number at
    unfolding meet_all
    all_refused e = rw e

    pub all_full : {number at : ℕ} → n.each place count ≡ fine → first ≡ refused number at → all ≡ refused number at
    unfolding meet_all
    all_full e f = rw (e, f)

    pub all_next : {more : List A} → n.each place count ≡ fine → first ≡ accepted more
        → all ≡ meet_all n place ys (suc count) more
    unfolding meet_all
    all_next e f = rw (e, f)

module _ {A : Type 0} (w : Walk A) where
  pub explore_ends : (fuel place count : ℕ) (xs : List A) → length xs ≤ place
      → explore w fuel place count xs ≡ accepted xs
  unfolding explore
  explore_ends zero place count xs le = refl
  explore_ends (suc fuel) place count xs le = rw (le-ltb place (length xs) le, explore)

  -- the state at place, as it is taken, and the walk after it
  module _ (fuel place count : ℕ) (xs : List A) where
    abbrev here : A
    here = get_or xs place w.none

    abbrev taken : Result (List A)
    taken = and_then (w.before place here) (λ _. meet_all w.numbering place (w.targets here) count xs)

    abbrev rest : List A → Result (List A)
    rest more = explore w fuel (suc place) (count + length (w.targets here)) more

    pub explore_is : place < length xs → explore w (suc fuel) place count xs ≡ and_then taken rest
    unfolding explore
    explore_is lt = rw (lt-ltb place (length xs) lt, explore) (and_then_on (w.before place here) _ _)

    pub explore_next : {ys : List A} → place < length xs → taken ≡ accepted ys
        → explore w (suc fuel) place count xs ≡ rest ys
    explore_next lt e = explore_is lt ∙ rw e

    pub explore_refused : {number at : ℕ} → place < length xs → taken ≡ refused number at
        → explore w (suc fuel) place count xs ≡ refused number at
    explore_refused lt e = explore_is lt ∙ rw e
