-- What is in the sets that insert, union and product make.
-- Assumes of an order only that two elements are equal where neither is less.
use Prim.Native.Nat.{ℕ}
use mathlib.Core.Path.{◌≡◌, refl, sym, ◌∙◌, ap, subst}
use mathlib.Core.Logic.{◌⊎◌, inl, inr}
use mathlib.Core.List.{List, [], ◌∷◌}
use mathlib.Core.Bool.{Bool, true, false, cond}
use native.Mathlib.Omega.{arith}
use lib.Dec.{ltb}
use borrow.Author.Tests.{ltb-false}
use Rattle.sets.specs.Sets.{insert, union, insert_join, insert_joins, insert_product, In}
use Rattle.term.specs.Term.{Term, less_then, less}
use Rattle.sets.proofs.Members.{All}

-- z is the join of one of xs and one of ys
abbrev Joined : {A : Type 0} → (A → A → A) → A → List A → List A → Type 0
Joined {A} joined z xs ys = (x y : A) × In x xs × In y ys × (z ≡ joined x y)

module _ {A : Type 0} (less : A → A → Bool) where
  insert_in : (z x : A) (ys : List A) → In z (insert less x ys) → (z ≡ x) ⊎ In z ys
  unfolding insert
  insert_in z x [] h = h
  insert_in z x (y ∷ ys) h = go (insert_in z x ys) (less x y) (less y x) h
    where
      go : (In z (insert less x ys) → (z ≡ x) ⊎ In z ys) → (b c : Bool)
          → In z (cond b (x ∷ (y ∷ ys)) (cond c (y ∷ insert less x ys) (y ∷ ys))) → (z ≡ x) ⊎ In z (y ∷ ys)
      go ih true c h = h
      go ih false true (inl e) = inr (inl e)
      go ih false true (inr h) = elim (ih h) [ inl e ↦ inl e | inr k ↦ inr (inr k) ]
      go ih false false h = inr h

  pub union_in : (z : A) (xs ys : List A) → In z (union less xs ys) → In z xs ⊎ In z ys
  unfolding union
  union_in z [] ys h = inr h
  union_in z (x ∷ xs) ys h = go (union_in z xs ys) (insert_in z x (union less xs ys) h)
    where
      go : (In z (union less xs ys) → In z xs ⊎ In z ys) → (z ≡ x) ⊎ In z (union less xs ys) → In z (x ∷ xs) ⊎ In z ys
      go ih (inl e) = inl (inl e)
      go ih (inr k) = elim (ih k) [ inl a ↦ inl (inr a) | inr b ↦ inr b ]

  module _ (joined : A → A → A) (consistent : A → Bool) where
    join_in : (z x y : A) (ws : List A) → In z (insert_join less joined consistent x y ws) → (z ≡ joined x y) ⊎ In z ws
    unfolding insert_join
    join_in z x y ws h = go (consistent (joined x y)) h
      where
        go : (b : Bool) → In z (cond b (insert less (joined x y) ws) ws) → (z ≡ joined x y) ⊎ In z ws
        go true h = insert_in z (joined x y) ws h
        go false h = inr h

    joins_in : (z x : A) (ys ws : List A) → In z (insert_joins less joined consistent x ys ws)
        → ((y : A) × In y ys × (z ≡ joined x y)) ⊎ In z ws
    unfolding insert_joins
    joins_in z x [] ws h = inr h
    joins_in z x (y ∷ ys) ws h = go (joins_in z x ys ws) (join_in z x y (insert_joins less joined consistent x ys ws) h)
      where
        go : (In z (insert_joins less joined consistent x ys ws) → ((v : A) × In v ys × (z ≡ joined x v)) ⊎ In z ws)
            → (z ≡ joined x y) ⊎ In z (insert_joins less joined consistent x ys ws)
            → ((v : A) × In v (y ∷ ys) × (z ≡ joined x v)) ⊎ In z ws
        go ih (inl q) = inl (y, inl refl, q)
        go ih (inr k) = elim (ih k) [ inl r ↦ inl (r.0, inr r.1, r.2) | inr m ↦ inr m ]

    pub product_in : (z : A) (xs ys : List A) → In z (insert_product less joined consistent xs ys [])
        → Joined joined z xs ys
    unfolding insert_product
    product_in z [] ys h = absurd h
    product_in z (x ∷ xs) ys h =
        go (product_in z xs ys) (joins_in z x ys (insert_product less joined consistent xs ys []) h)
      where
        go : (In z (insert_product less joined consistent xs ys []) → Joined joined z xs ys)
            → ((y : A) × In y ys × (z ≡ joined x y)) ⊎ In z (insert_product less joined consistent xs ys [])
            → Joined joined z (x ∷ xs) ys
        go ih (inl (y, m, q)) = (x, y, inl refl, m, q)
        go ih (inr k) = let (v, y, m, n, q) = ih k in (v, y, inr m, n, q)

  module _ (equal : (x y : A) → less x y ≡ false → less y x ≡ false → x ≡ y) where
    in_insert : (z x : A) (ys : List A) → (z ≡ x) ⊎ In z ys → In z (insert less x ys)
    unfolding insert
    in_insert z x [] h = h
    in_insert z x (y ∷ ys) h = go (in_insert z x ys) (less x y) (less y x) refl refl h
      where
        go : ((z ≡ x) ⊎ In z ys → In z (insert less x ys)) → (b c : Bool) → less x y ≡ b → less y x ≡ c
            → (z ≡ x) ⊎ In z (y ∷ ys)
            → In z (cond b (x ∷ (y ∷ ys)) (cond c (y ∷ insert less x ys) (y ∷ ys)))
        go ih true c p q h = h
        go ih false true p q (inl e) = inr (ih (inl e))
        go ih false true p q (inr (inl e)) = inl e
        go ih false true p q (inr (inr k)) = inr (ih (inr k))
        go ih false false p q (inl e) = inl (e ∙ equal x y p q)
        go ih false false p q (inr k) = k

    pub in_union : (z : A) (xs ys : List A) → In z xs ⊎ In z ys → In z (union less xs ys)
    unfolding union
    in_union z [] ys (inl a) = absurd a
    in_union z [] ys (inr b) = b
    in_union z (x ∷ xs) ys (inl (inl e)) = in_insert z x (union less xs ys) (inl e)
    in_union z (x ∷ xs) ys (inl (inr a)) = in_insert z x (union less xs ys) (inr (in_union z xs ys (inl a)))
    in_union z (x ∷ xs) ys (inr b) = in_insert z x (union less xs ys) (inr (in_union z xs ys (inr b)))

    module _ (joined : A → A → A) (consistent : A → Bool) where
      in_join : (z x y : A) (ws : List A) → ((z ≡ joined x y) × (consistent (joined x y) ≡ true)) ⊎ In z ws
          → In z (insert_join less joined consistent x y ws)
      unfolding insert_join
      in_join z x y ws (inl (e, c)) =
          subst (λ (b : Bool). In z (cond b (insert less (joined x y) ws) ws)) (sym c)
          (in_insert z (joined x y) ws (inl e))
      in_join z x y ws (inr k) = go (consistent (joined x y))
        where
          go : (b : Bool) → In z (cond b (insert less (joined x y) ws) ws)
          go true = in_insert z (joined x y) ws (inr k)
          go false = k

      in_joins : (x y : A) (ys ws : List A) → In y ys → consistent (joined x y) ≡ true
          → In (joined x y) (insert_joins less joined consistent x ys ws)
      unfolding insert_joins
      in_joins x y [] ws m c = absurd m
      in_joins x y (v ∷ ys) ws (inl e) c =
          in_join (joined x y) x v (insert_joins less joined consistent x ys ws)
          (inl (ap (joined x) e, subst (λ (u : A). consistent (joined x u) ≡ true) e c))
      in_joins x y (v ∷ ys) ws (inr m) c =
          in_join (joined x y) x v (insert_joins less joined consistent x ys ws) (inr (in_joins x y ys ws m c))

      joins_keep : (z x : A) (ys ws : List A) → In z ws → In z (insert_joins less joined consistent x ys ws)
      unfolding insert_joins
      joins_keep z x [] ws k = k
      joins_keep z x (y ∷ ys) ws k =
          in_join z x y (insert_joins less joined consistent x ys ws) (inr (joins_keep z x ys ws k))

      pub in_product : (x y : A) (xs ys : List A) → In x xs → In y ys → consistent (joined x y) ≡ true
          → In (joined x y) (insert_product less joined consistent xs ys [])
      unfolding insert_product
      in_product x y [] ys m n c = absurd m
      in_product x y (u ∷ xs) ys (inl e) n c =
          subst (λ (v : A). In (joined v y)
          (insert_joins less joined consistent u ys (insert_product less joined consistent xs ys []))) (sym e)
          (in_joins u y ys (insert_product less joined consistent xs ys []) n
          (subst (λ (v : A). consistent (joined v y) ≡ true) e c))
      in_product x y (u ∷ xs) ys (inr m) n c =
          joins_keep (joined x y) u ys (insert_product less joined consistent xs ys []) (in_product x y xs ys m n c)

-- what holds of all that goes into a set holds of all that is in it
pub all_union : {A : Type 0} (less : A → A → Bool) (P : A → Type 0) (xs ys : List A) → All P xs → All P ys
    → All P (union less xs ys)
all_union less P xs ys p q z h = elim (union_in less z xs ys h) [ inl m ↦ p z m | inr m ↦ q z m ]

pub all_product : {A : Type 0} (less : A → A → Bool) (joined : A → A → A) (consistent : A → Bool) (P : A → Type 0)
    → ((x y : A) → P x → P y → P (joined x y))
    → (xs ys : List A) → All P xs → All P ys → All P (insert_product less joined consistent xs ys [])
all_product less joined consistent P join xs ys p q z h =
    let (x, y, mx, my, e) = product_in less joined consistent z xs ys h in subst P (sym e) (join x y (p x mx) (q y my))

-- what is in a product was kept
module _ {A : Type 0} (less : A → A → Bool) (joined : A → A → A) (consistent : A → Bool) where
  abbrev Kept : A → Type 0
  Kept z = consistent z ≡ true

  join_kept : (x y : A) (ws : List A) → All Kept ws → All Kept (insert_join less joined consistent x y ws)
  unfolding insert_join
  join_kept x y ws h = go (consistent (joined x y)) refl
    where
      go : (b : Bool) → consistent (joined x y) ≡ b → All Kept (cond b (insert less (joined x y) ws) ws)
      go true q z m = elim (insert_in less z (joined x y) ws m) [ inl e ↦ ap consistent e ∙ q | inr k ↦ h z k ]
      go false q z m = h z m

  joins_kept : (x : A) (ys ws : List A) → All Kept ws → All Kept (insert_joins less joined consistent x ys ws)
  unfolding insert_joins
  joins_kept x [] ws h = h
  joins_kept x (y ∷ ys) ws h = join_kept x y (insert_joins less joined consistent x ys ws) (joins_kept x ys ws h)

  pub product_kept : (xs ys : List A) → All Kept (insert_product less joined consistent xs ys [])
  unfolding insert_product
  product_kept [] ys = λ z h. absurd h
  product_kept (x ∷ xs) ys = joins_kept x ys (insert_product less joined consistent xs ys []) (product_kept xs ys)

-- the orders of numbers and of terms
pub ltb_equal : (x y : ℕ) → ltb x y ≡ false → ltb y x ≡ false → x ≡ y
ltb_equal x y p q = omega (arith, ltb-false x y p, ltb-false y x q)

then_equal : (x y : ℕ) (r s : Bool) → less_then x y r ≡ false → less_then y x s ≡ false
    → (x ≡ y) × (r ≡ false) × (s ≡ false)
then_equal x y r s p q = go (ltb x y) (ltb y x) refl refl p q
  where
    go : (b c : Bool) → ltb x y ≡ b → ltb y x ≡ c → cond b true (cond c false r) ≡ false
        → cond c true (cond b false s) ≡ false → (x ≡ y) × (r ≡ false) × (s ≡ false)
    go true c e f p q = let z : ◌≡◌ {A = ℕ} 0 1 = cc in absurd (omega arith)
    go false true e f p q = let z : ◌≡◌ {A = ℕ} 0 1 = cc in absurd (omega arith)
    go false false e f p q = (ltb_equal x y e f, p, q)

pub less_equal : (x y : Term) → less x y ≡ false → less y x ≡ false → x ≡ y
less_equal x y p q =
    let (a, p', q') = then_equal x.obligations y.obligations _ _ p q in
    let (b, p'', q'') = then_equal x.must y.must _ _ p' q' in
    let c = ltb_equal x.must_not y.must_not p'' q'' in
    λ i. record { must = b i; must_not = c i; obligations = a i }
