-- Sets as rising lists with no repeats, and a slice whose first places store such a set.
use Rattle.std.specs.Prelude.{ℕ, zero, suc, ◌≤◌, ◌/◌, ◌%◌, min, ◌≡◌, List, [], ◌∷◌, Bool, false, cond, ◌||◌, ◌⊎◌}
use Rattle.std.specs.Prelude.{length, take, eqb, ltb}
use Rattle.std.specs.Int.Bits.{bit_and, bit_or}
use Rattle.sets.specs.declared.Joined.{Joined}

-- sets of A, rising by less
module _ {A : Type 0} (less : A → A → Bool) where
  -- the set with x at its place; a member that is there already is not added again (01, Duties, covers and terms,
  -- sentence 5)
  unfoldable pub insert : A → List A → List A
  insert x [] = x ∷ []
  insert x (y ∷ ys) = cond (less x y) (x ∷ (y ∷ ys)) (cond (less y x) (y ∷ insert x ys) (y ∷ ys))

  -- ys together with each of xs
  unfoldable pub union : List A → List A → List A
  union [] ys = ys
  union (x ∷ xs) ys = insert x (union xs ys)

  -- how two elements are joined, and which joins are kept
  module _ (joined : A → A → A) (consistent : A → Bool) where
    -- ws with the join of x and y, if that is consistent; else ws alone (01, Duties, covers and terms, sentence 4)
    unfoldable pub insert_join : A → A → List A → List A
    insert_join x y ws = cond (consistent (joined x y)) (insert (joined x y) ws) ws

    unfoldable pub insert_joins : A → List A → List A → List A
    insert_joins x [] ws = ws
    insert_joins x (y ∷ ys) ws = insert_join x y (insert_joins x ys ws)

    -- ws with every consistent join of one of xs and one of ys, the product of the two lists (01, Duties, covers and
    -- terms, sentence 6)
    unfoldable pub insert_product : (xs ys ws : List A) → List A
    insert_product [] ys ws = ws
    insert_product (x ∷ xs) ys ws = insert_joins x ys (insert_product xs ys ws)

-- how two elements are joined, and for which bits a join is dropped: none where it is kept (R-8, sentence 2)
module _ {A : Type 0} (joined : A → A → A) (conflict : A → ℕ) where
  -- over the joins of x and each of ys
  unfoldable pub join_conflicts : A → List A → ℕ
  join_conflicts x [] = 0
  join_conflicts x (y ∷ ys) = bit_or (conflict (joined x y)) (join_conflicts x ys)

  -- over all joins of one of xs and one of ys, those that their product is made of (R-8, sentence 3)
  unfoldable pub product_conflicts : (xs ys : List A) → ℕ
  product_conflicts [] ys = 0
  product_conflicts (x ∷ xs) ys = bit_or (join_conflicts x ys) (product_conflicts xs ys)

-- x is one of them
abbrev pub In : {A : Type 0} → A → List A → Type 0
In x [] = ⊥
In x (y ∷ ys) = (x ≡ y) ⊎ In x ys

-- whether a test holds of one of them
unfoldable pub any : {A : Type 0} → (A → Bool) → List A → Bool
any test [] = false
any test (x ∷ xs) = test x || any test xs

-- whether a test holds of a number below n
unfoldable pub any_below : (ℕ → Bool) → (n : ℕ) → Bool
any_below test zero = false
any_below test (suc n) = any_below test n || test n

-- the bits that a number's two lowest bytes share
abbrev pub conflict_n : ℕ → ℕ
conflict_n t = bit_and (t / 256) (t % 256)

-- a number whose two lowest bytes share no bit
abbrev pub consistent_n : ℕ → Bool
consistent_n t = eqb (conflict_n t) 0

abbrev pub insert_n : ℕ → List ℕ → List ℕ
insert_n = insert ltb

abbrev pub union_n : List ℕ → List ℕ → List ℕ
union_n = union ltb

abbrev pub insert_join_n : ℕ → ℕ → List ℕ → List ℕ
insert_join_n = insert_join ltb bit_or consistent_n

abbrev pub insert_joins_n : ℕ → List ℕ → List ℕ → List ℕ
insert_joins_n = insert_joins ltb bit_or consistent_n

abbrev pub insert_product_n : List ℕ → List ℕ → List ℕ → List ℕ
insert_product_n = insert_product ltb bit_or consistent_n

abbrev pub join_conflicts_n : ℕ → List ℕ → ℕ
join_conflicts_n = join_conflicts bit_or conflict_n

abbrev pub product_conflicts_n : List ℕ → List ℕ → ℕ
product_conflicts_n = product_conflicts bit_or conflict_n

-- the first n of places are the set ws, or n is one more than there are places and ws has more than fit
pub record Stores (places : List ℕ) (n : ℕ) (ws : List ℕ) : Type 0 where
  pub count : n ≡ min (suc (length places)) (length ws)
  pub items : length ws ≤ length places → take n places ≡ ws

-- whatever set the places stored before, they now store f of it
pub record Updates (before : List ℕ) (n : ℕ) (after : List ℕ) (m : ℕ) (f : List ℕ → List ℕ) : Type 0 where
  pub updates : (ws : List ℕ) → Stores before n ws → Stores after m (f ws)

-- and r tells how many there are then, and the bits for which a join on the way was dropped
pub record Joins (before : List ℕ) (n : ℕ) (after : List ℕ) (r : Joined) (f : List ℕ → List ℕ) (bits : ℕ)
    : Type 0 where
  pub updates : (ws : List ℕ) → Stores before n ws → Stores after r.count (f ws)
  pub conflicts : r.conflicts ≡ bits

-- t before the element at i
unfoldable pub insert_at : {A : Type 0} → ℕ → A → List A → List A
insert_at zero t xs = t ∷ xs
insert_at (suc i) t [] = t ∷ []
insert_at (suc i) t (x ∷ xs) = x ∷ insert_at i t xs
