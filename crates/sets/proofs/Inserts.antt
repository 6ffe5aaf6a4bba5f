-- Inserting: at which place it is, and how long a list becomes. Assumes nothing.
use mathlib.Core.Path.{◌≡◌, refl, ap, ◌∙◌}
use mathlib.Core.List.{List, [], ◌∷◌}
use mathlib.Core.Bool.{Bool, true, false, cond, not}
use Prim.Native.Nat.{ℕ, suc, ◌+◌, ◌*◌, ◌≤◌, ◌<◌}
use native.Mathlib.Nat.{suc-mul}
use native.Mathlib.Omega.{arith}
use native.Mathlib.Decide.{dec_lt}
use borrow.Author.Tests.{lt-ltb, le-ltb, lt-leb, le-leb}
use lib.Dec.{leb}
use Rattle.std.specs.List.{position_or_len}
use lib.ListN.{length, get_or}
use Rattle.sets.specs.Sets.{insert, insert_n, union, insert_join, insert_joins, insert_product, insert_at}

pub position_within : (test : ℕ → Bool) (xs : List ℕ) → position_or_len test xs ≤ length xs
position_within test [] = omega arith
position_within test (x ∷ xs) = go (test x) (position_within test xs)
  where
    go : (b : Bool) → position_or_len test xs ≤ length xs
        → cond (not b) (1 + position_or_len test xs) 0 ≤ suc (length xs)
    go true ih = omega arith
    go false ih = omega arith

-- the first number of a list that is not below t, at its place i, or the place behind the last: t itself is a member
-- already, else it belongs there
module _ (t : ℕ) where
  pub insert_found : (ws : List ℕ) (i : ℕ) → i ≡ position_or_len (leb t) ws → i < length ws → get_or ws i 0 ≡ t
      → insert_n t ws ≡ ws
  unfolding insert
  insert_found [] i e lt same = absurd (omega arith)
  insert_found (x ∷ xs) i e lt same = go (dec_lt x t) (insert_found xs (position_or_len (leb t) xs) refl)
    where
      rest : ℕ
      rest = position_or_len (leb t) xs

      go : Dec (x < t) → (rest < length xs → get_or xs rest 0 ≡ t → insert_n t xs ≡ xs)
          → insert_n t (x ∷ xs) ≡ x ∷ xs
      go (yes l) ih =
          let next : i ≡ suc rest = e ∙ rw (lt-leb t x l) (omega arith) in
          let on : get_or xs rest 0 ≡ t = rw next at same in
          rw (le-ltb t x (omega arith), lt-ltb x t l)
          (ap (λ (r : List ℕ). x ∷ r) (ih (omega arith) on))
      go (no l) ih =
          let here : i ≡ 0 = e ∙ rw (le-leb t x (omega arith)) in
          let is : x ≡ t = rw here at same in
          rw (le-ltb t x (omega arith), le-ltb x t (omega arith))

  pub insert_absent : (ws : List ℕ) (i : ℕ) → i ≡ position_or_len (leb t) ws
      → (i < length ws → get_or ws i 0 ≡ t → ⊥) → insert_n t ws ≡ insert_at i t ws
  unfolding insert insert_at
  insert_absent [] i e other = rw e
  insert_absent (x ∷ xs) i e other = go (dec_lt x t) (insert_absent xs (position_or_len (leb t) xs) refl)
    where
      rest : ℕ
      rest = position_or_len (leb t) xs

      go : Dec (x < t) → ((rest < length xs → get_or xs rest 0 ≡ t → ⊥) → insert_n t xs ≡ insert_at rest t xs)
          → insert_n t (x ∷ xs) ≡ insert_at i t (x ∷ xs)
      go (yes l) ih =
          let next : i ≡ suc rest = e ∙ rw (lt-leb t x l) (omega arith) in
          rw (next, le-ltb t x (omega arith), lt-ltb x t l)
          (ap (λ (r : List ℕ). x ∷ r) (ih (λ lt same. other (omega arith) (rw next same))))
      go (no l) ih =
          let here : i ≡ 0 = e ∙ rw (le-leb t x (omega arith)) in
          here_in here (dec_lt t x)
        where
          here_in : i ≡ 0 → Dec (t < x) → insert_n t (x ∷ xs) ≡ insert_at i t (x ∷ xs)
          here_in here (yes m) = rw (here, lt-ltb t x m)
          here_in here (no m) =
              let same : x ≡ t = omega arith in
              absurd (other (omega arith) (rw here same))

module _ {A : Type 0} (less : A → A → Bool) where
  -- no element is lost
  pub insert_longer : (t : A) (xs : List A) → length xs ≤ length (insert less t xs)
  unfolding insert
  insert_longer t [] = omega arith
  insert_longer t (x ∷ xs) = go (less t x) (less x t) (insert_longer t xs)
    where
      go : (b c : Bool) → length xs ≤ length (insert less t xs)
          → suc (length xs) ≤ length (cond b (t ∷ (x ∷ xs)) (cond c (x ∷ insert less t xs) (x ∷ xs)))
      go true c le = omega arith
      go false true le = omega arith
      go false false le = omega arith

  -- and at most one is added
  pub insert_shorter : (t : A) (xs : List A) → length (insert less t xs) ≤ suc (length xs)
  unfolding insert
  insert_shorter t [] = omega arith
  insert_shorter t (x ∷ xs) = go (less t x) (less x t) (insert_shorter t xs)
    where
      go : (b c : Bool) → length (insert less t xs) ≤ suc (length xs)
          → length (cond b (t ∷ (x ∷ xs)) (cond c (x ∷ insert less t xs) (x ∷ xs))) ≤ suc (suc (length xs))
      go true c le = omega arith
      go false true le = omega arith
      go false false le = omega arith

  pub union_shorter : (xs ys : List A) → length (union less xs ys) ≤ length xs + length ys
  unfolding union
  union_shorter [] ys = omega arith
  union_shorter (x ∷ xs) ys = omega (arith, insert_shorter x (union less xs ys), union_shorter xs ys)

  module _ (joined : A → A → A) (consistent : A → Bool) where
    join_shorter : (x y : A) (ws : List A) → length (insert_join less joined consistent x y ws) ≤ suc (length ws)
    unfolding insert_join
    join_shorter x y ws = go (consistent (joined x y))
      where
        go : (b : Bool) → length (cond b (insert less (joined x y) ws) ws) ≤ suc (length ws)
        go true = insert_shorter (joined x y) ws
        go false = omega arith

    joins_shorter : (x : A) (ys ws : List A)
        → length (insert_joins less joined consistent x ys ws) ≤ length ys + length ws
    unfolding insert_joins
    joins_shorter x [] ws = omega arith
    joins_shorter x (y ∷ ys) ws =
        omega (arith, join_shorter x y (insert_joins less joined consistent x ys ws), joins_shorter x ys ws)

    pub product_shorter : (xs ys ws : List A)
        → length (insert_product less joined consistent xs ys ws) ≤ length xs * length ys + length ws
    unfolding insert_product
    product_shorter [] ys ws = omega arith
    product_shorter (x ∷ xs) ys ws =
        omega (
          arith,
          joins_shorter x ys (insert_product less joined consistent xs ys ws),
          product_shorter xs ys ws,
          suc-mul (length xs) (length ys),
        )
