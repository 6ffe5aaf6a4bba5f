-- When the first places of a slice store a set, and what a search and a shift make of them. Assumes nothing.
use mathlib.Core.Path.{◌≡◌, refl, sym, ◌∙◌}
use mathlib.Core.List.{List, [], ◌∷◌}
use Prim.Native.Nat.{ℕ, suc, ◌+◌, ◌≤◌, ◌<◌}
use native.Mathlib.Numerals.{add-one}
use native.Mathlib.Omega.{arith}
use lib.ListN.{length, get_or, take, length-take}
use lib.Dec.{ltb, leb}
use mathlib.Core.Bool.{cond}
use native.Mathlib.Decide.{dec_lt}
use Rattle.std.proofs.Common.{Option, Some, None}
use Rattle.std.specs.Option.{unwrap_or}
use Rattle.std.specs.List.{position_or_len}
use lib.Seq.{get_or-take, length-take-le}
use borrow.Author.Tests.{lt-ltb, le-ltb}
use Rattle.sets.specs.Sets.{Stores, Updates, insert_n, insert_at}
use Rattle.sets.proofs.Lists.{length_put}
use Rattle.sets.proofs.Inserts.{insert_longer, insert_found, insert_absent, position_within}

-- no room for one more
pub full : (xs : List ℕ) (n i t r : ℕ) → n ≡ length xs → r ≡ suc (length xs) → Stores xs r (insert_at i t (take n xs))
full xs n i t r e q =
    let m : length (insert_at i t (take n xs)) ≡ suc n = simp (length_put, length-take) (omega arith) in
    record { count = omega arith; items = λ le. absurd (omega arith) }

-- the first n + 1 places have t at i
pub shifted : (xs ys : List ℕ) (n i t : ℕ) → n < length xs → length ys ≡ length xs
    → take (suc n) ys ≡ insert_at i t (take n xs) → Stores ys (n + 1) (insert_at i t (take n xs))
shifted xs ys n i t lt size e =
    let k : length (insert_at i t (take n xs)) ≡ n + 1 = simp (length_put, length-take) (omega arith) in
    record { count = omega arith; items = λ _. rw add-one e }

-- a count above the room stays
pub over_in : (xs : List ℕ) (n t : ℕ) → length xs < n → Updates xs n xs n (insert_n t)
over_in xs n t lt =
    record {
      updates = λ ws i. record {
        count = omega (arith, insert_longer ltb t ws, i.count);
        items = λ le. absurd
            (omega (arith, insert_longer ltb t ws, i.count));
      };
    }

-- what is right of the list held is right of each list that xs is
pub lift_in : (xs ys vs : List ℕ) (n r t : ℕ) → n ≤ length xs → insert_n t (take n xs) ≡ vs → Stores ys r vs
    → Updates xs n ys r (insert_n t)
lift_in xs ys vs n r t le e p = record {
  updates = λ ws i.
      let w : take n xs ≡ ws = i.items (omega (arith, i.count)) in
      rw (← w, e) p;
}

pub self : (xs : List ℕ) (n : ℕ) → n ≤ length xs → Stores xs n (take n xs)
self xs n le =
    let m = length-take-le n xs le in
    record { count = omega arith; items = λ _. refl }

-- ---- a search among the first n numbers for one that is not below t; its place is i, or i is n where there is none

module _ (xs : List ℕ) (n t : ℕ) (r : Option ℕ) (le : n ≤ length xs)
    (first : r ≡ cond (ltb (position_or_len (leb t) (take n xs)) (length (take n xs)))
    (Some (position_or_len (leb t) (take n xs))) None) {i : ℕ} (is : i ≡ unwrap_or r n) where
  all : length (take n xs) ≡ n
  all = length-take-le n xs le

  place : i ≡ position_or_len (leb t) (take n xs)
  place = go (dec_lt p n)
    where
      p : ℕ
      p = position_or_len (leb t) (take n xs)

      go : Dec (p < n) → i ≡ p
      go (yes l) = is ∙ rw (first, all, lt-ltb p n l)
      go (no l) =
          let within : p ≤ length (take n xs) = position_within (leb t) (take n xs) in
          is ∙ rw (first, all, le-ltb p n (omega arith)) (omega (arith, all))

  at : i < n → get_or (take n xs) i 0 ≡ get_or xs i 0
  at l = get_or-take n xs i 0 l

  pub found_in : i < n → get_or xs i 0 ≡ t → Updates xs n xs n (insert_n t)
  found_in l same =
      lift_in xs xs _ n n t le (insert_found t (take n xs) i place (omega (arith, all)) (at l ∙ same)) (self xs n le)

  pub absent_in : (i < n → get_or xs i 0 ≡ t → ⊥) → {ys : List ℕ} {m : ℕ} → Stores ys m (insert_at i t (take n xs))
      → Updates xs n ys m (insert_n t)
  absent_in other stored =
      lift_in xs _ _ n _ t le
      (insert_absent t (take n xs) i place
      (λ l e. let lt : i < n = omega (arith, all) in other lt (sym (at lt) ∙ e)))
      stored

pub empty : (xs : List ℕ) → Stores xs 0 []
empty xs = record { count = omega arith; items = λ _. refl }

pub single : (x : ℕ) (xs : List ℕ) → Stores (x ∷ xs) 1 (x ∷ [])
single x xs = record { count = omega arith; items = λ _. refl }

pub count_fits : {xs ws : List ℕ} {n : ℕ} → Stores xs n ws → length ws ≤ length xs → n ≤ length xs
count_fits h le = omega (arith, h.count)

pub items_are : {xs ws : List ℕ} {n : ℕ} → Stores xs n ws → n ≤ length xs → take n xs ≡ ws
items_are h le = h.items (omega (arith, h.count))
