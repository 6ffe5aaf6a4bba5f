-- A count with places: from a lent array to a value, and the one list that may have a member more than max_terms.
-- Assumes nothing.
use mathlib.Core.Path.{◌≡◌}
use mathlib.Core.List.{List, [], ◌∷◌}
use Prim.Native.Nat.{ℕ, suc, ◌≤◌}
use native.Mathlib.Omega.{arith}
use lib.ListN.{length, take, length-take}
use lib.Dec.{ltb}
use Rattle.sets.specs.Sets.{Stores, union_n}
use Rattle.sets.proofs.Stores.{count_fits, items_are}
use Rattle.sets.proofs.Inserts.{union_shorter}
use Rattle.term.specs.Limits.{max_terms}
use Rattle.term.specs.Memory.{Carries}

pub carries_of : {capacity n : ℕ} {xs ws : List ℕ} → length xs ≡ capacity → Stores xs n ws → Carries capacity xs n ws
carries_of l h = record { count = omega (arith, h.count); items = λ le. h.items (omega arith) }

pub carried : {capacity n : ℕ} {xs ws : List ℕ} → Carries capacity xs n ws → n ≤ capacity → take n xs ≡ ws
carried h le = h.items (omega (arith, h.count))

-- own with the first k of ys, at most max_terms of them, has its places
module _ (xs ys : List ℕ) (n k own : ℕ) (is : Stores xs n (union_n (take k ys) (own ∷ []))) (le : k ≤ max_terms)
    (l : length xs ≡ suc max_terms) where
  pub more_fits : n ≤ length xs
  more_fits = count_fits is (omega (arith, union_shorter ltb (take k ys) (own ∷ []), length-take k ys))

  pub more_is : take n xs ≡ union_n (take k ys) (own ∷ [])
  more_is = items_are is more_fits
