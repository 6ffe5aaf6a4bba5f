-- Lists that rise: what is inserted keeps them so, and a list whose numbers are consistent is its product with 0 alone.
-- Assumes nothing.
use mathlib.Core.Path.{◌≡◌, refl, ap, ◌∙◌}
use mathlib.Core.List.{List, [], ◌∷◌}
use mathlib.Core.Bool.{Bool, true, false, cond}
use Prim.Native.Nat.{ℕ, zero, suc, ◌≤◌, ◌<◌}
use native.Mathlib.Omega.{arith}
use lib.ListN.{length, get_or}
use lib.Dec.{ltb}
use lib.Bits.{bit_or}
use borrow.Author.Tests.{lt-ltb, ltb-true}
use Rattle.sets.specs.Sets.{insert, union, insert_join, insert_joins, insert_product, consistent_n, insert_n, union_n}
use Rattle.sets.specs.Sets.{insert_join_n, insert_joins_n, insert_product_n}

-- numbers from low on, each above the one before it, and P holds of each
abbrev pub Rising : (P : ℕ → Type 0) (low : ℕ) → List ℕ → Type 0
Rising P low [] = Unit {0}
Rising P low (x ∷ xs) = (low ≤ x) × P x × Rising P (suc x) xs

module _ (P : ℕ → Type 0) where
  pub rising_from : (low high : ℕ) (xs : List ℕ) → low ≤ high → Rising P high xs → Rising P low xs
  rising_from low high [] le r = tt
  rising_from low high (x ∷ xs) le r = (omega arith, r.1, r.2)

  rising_least : (low : ℕ) (xs : List ℕ) → Rising P low xs → (i : ℕ) → i < length xs → low ≤ get_or xs i 0
  rising_least low [] r i lt = absurd (omega arith)
  rising_least low (x ∷ xs) r zero lt = r.0
  rising_least low (x ∷ xs) r (suc i) lt =
      let le = rising_least (suc x) xs r.2 i (omega arith) in omega (arith, r.0)

  -- of two places the later one has the higher number
  pub rising_at : (low : ℕ) (xs : List ℕ) → Rising P low xs → (i j : ℕ) → i < j → j < length xs
      → get_or xs i 0 < get_or xs j 0
  rising_at low [] r i j lt inside = absurd (omega arith)
  rising_at low (x ∷ xs) r i zero lt inside = absurd (omega arith)
  rising_at low (x ∷ xs) r zero (suc j) lt inside = rising_least (suc x) xs r.2 j (omega arith)
  rising_at low (x ∷ xs) r (suc i) (suc j) lt inside = rising_at (suc x) xs r.2 i j (omega arith) (omega arith)

  pub insert_rises : (t low : ℕ) (xs : List ℕ) → low ≤ t → P t → Rising P low xs → Rising P low (insert_n t xs)
  unfolding insert
  insert_rises t low [] le p r = (le, p, tt)
  insert_rises t low (x ∷ xs) le p r = go (ltb t x) (ltb x t) refl refl (λ lt. insert_rises t (suc x) xs lt p r.2)
    where
      go : (b c : Bool) → ltb t x ≡ b → ltb x t ≡ c → (suc x ≤ t → Rising P (suc x) (insert_n t xs))
          → Rising P low (cond b (t ∷ (x ∷ xs)) (cond c (x ∷ insert_n t xs) (x ∷ xs)))
      go true c e f ih = (le, p, (ltb-true t x e, r.1, r.2))
      go false true e f ih = (r.0, r.1, ih (ltb-true x t f))
      go false false e f ih = r

  pub union_rises : (low : ℕ) (xs ys : List ℕ) → Rising P low xs → Rising P low ys → Rising P low (union_n xs ys)
  unfolding union
  union_rises low [] ys r s = s
  union_rises low (x ∷ xs) ys r s =
      insert_rises x low (union_n xs ys) r.0 r.1
      (union_rises low xs ys (rising_from low (suc x) xs (omega arith) r.2) s)

  -- joins that are kept have P too
  module _ (joins : (x y : ℕ) → P x → P y → consistent_n (bit_or x y) ≡ true → P (bit_or x y)) where
    join_rises : (x y : ℕ) (ws : List ℕ) → P x → P y → Rising P 0 ws → Rising P 0 (insert_join_n x y ws)
    unfolding insert_join
    join_rises x y ws p q s = go (consistent_n (bit_or x y)) refl
      where
        go : (b : Bool) → consistent_n (bit_or x y) ≡ b → Rising P 0 (cond b (insert_n (bit_or x y) ws) ws)
        go true e = insert_rises (bit_or x y) 0 ws (omega arith) (joins x y p q e) s
        go false e = s

    joins_rise : (x low : ℕ) (ys ws : List ℕ) → P x → Rising P low ys → Rising P 0 ws
        → Rising P 0 (insert_joins_n x ys ws)
    unfolding insert_joins
    joins_rise x low [] ws p r s = s
    joins_rise x low (y ∷ ys) ws p r s =
        join_rises x y (insert_joins_n x ys ws) p r.1 (joins_rise x (suc y) ys ws p r.2 s)

    pub product_rises : (low high : ℕ) (xs ys ws : List ℕ) → Rising P low xs → Rising P high ys → Rising P 0 ws
        → Rising P 0 (insert_product_n xs ys ws)
    unfolding insert_product
    product_rises low high [] ys ws r s t = t
    product_rises low high (x ∷ xs) ys ws r s t =
        joins_rise x high ys (insert_product_n xs ys ws) r.1 s (product_rises (suc x) high xs ys ws r.2 s t)

  -- the lowest goes first
  pub insert_first : (t : ℕ) (xs : List ℕ) → Rising P (suc t) xs → insert_n t xs ≡ t ∷ xs
  unfolding insert
  insert_first t [] r = refl
  insert_first t (x ∷ xs) r = rw (lt-ltb t x r.0)

abbrev pub Consistent : ℕ → Type 0
Consistent t = consistent_n t ≡ true

pub product_zero : (low : ℕ) (xs : List ℕ) → Rising Consistent low xs → insert_product_n (0 ∷ []) xs [] ≡ xs
unfolding insert_product insert_joins insert_join
product_zero low [] r = refl
product_zero low (x ∷ xs) r =
    rw r.1 (ap (insert_n x) (product_zero (suc x) xs r.2) ∙ insert_first Consistent x xs r.2)
