-- A search among items for one that passes a test: as long as none did, the answer is that of the rest.
-- Assumes nothing.
use native.Mathlib.Omega.{arith}
use native.Mathlib.Numerals.{add-one}
use mathlib.Core.Path.{◌≡◌, refl, sym, ◌∙◌}
use mathlib.Core.Bool.{Bool, true, false, ◌||◌}
use mathlib.Core.List.{List, [], ◌∷◌}
use Prim.Native.Nat.{ℕ, suc, ◌+◌, ◌≤◌, ◌<◌}
use lib.ListN.{length, get_or, drop, drop_of_length-le}
use lib.Seq.{drop-cons}
use Rattle.std.specs.List.{list_any}
use Rattle.sets.specs.Sets.{any}

-- a search among items that stands at i: the test's answer is that of the rest
pub record Seeking {A : Type 0} (test : A → Bool) (items : List A) (i : ℕ) : Type 0 where
  pub within : i ≤ length items
  pub rest : any test items ≡ any test (drop i items)

module _ {A : Type 0} (none : A) (test : A → Bool) (items : List A) (i : ℕ) (inv : Seeking test items i) where
  next : i < length items → any test items ≡ (test (get_or items i none) || any test (drop (suc i) items))
  unfolding any
  next lt = inv.rest ∙ rw (drop-cons items i none lt)

  pub seek_finds : {b : Bool} → i < length items → b ≡ test (get_or items i none) → b ≡ true → true ≡ any test items
  seek_finds lt e f = rw (next lt, ← e, f)

  pub seek_steps : {b : Bool} → i < length items → b ≡ test (get_or items i none) → b ≡ false
      → Seeking test items (i + 1)
  seek_steps lt e f = record { within = omega arith; rest = rw (next lt, ← e, f, add-one i) }

  pub seek_ends : length items ≤ i → false ≡ any test items
  unfolding any
  seek_ends ge = sym (inv.rest ∙ rw (drop_of_length-le items {i = i} ge))

-- the standard library's search asks the same
pub list_any_is : {A : Type 0} (test : A → Bool) (xs : List A) → list_any test xs ≡ any test xs
unfolding any
list_any_is test [] = refl
list_any_is test (x ∷ xs) = rw (list_any_is test xs)
