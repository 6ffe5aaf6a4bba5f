-- What is in a list: by place, in joined and in mapped lists. Assumes nothing.
use Prim.Native.Nat.{ℕ, zero, suc, ◌<◌}
use mathlib.Core.Path.{◌≡◌, refl, sym, ap, subst}
use mathlib.Core.Logic.{◌⊎◌, inl, inr, ◌↔◌}
use mathlib.Core.List.{List, [], ◌∷◌, ◌++◌, map}
use mathlib.Core.Bool.{Bool, true, false, ◌||◌, false≢true}
use native.Mathlib.Omega.{arith}
use native.Mathlib.Decide.{ℕ_discrete}
use lib.ListN.{get_or, length}
use Rattle.sets.specs.Sets.{any, any_below, In}

-- P holds of each
abbrev pub All : {A : Type 0} → (A → Type 0) → List A → Type 0
All {A} P xs = (x : A) → In x xs → P x

pub all_one : {A : Type 0} (P : A → Type 0) (x : A) → P x → All P (x ∷ [])
all_one P x p y (inl e) = subst P (sym e) p
all_one P x p y (inr e) = absurd e

-- the element at a place, and the place of an element
pub at_in : {A : Type 0} (d : A) (xs : List A) (i : ℕ) → i < length xs → In (get_or xs i d) xs
at_in d [] i l = absurd (omega arith)
at_in d (x ∷ xs) zero l = inl refl
at_in d (x ∷ xs) (suc i) l = inr (at_in d xs i (omega arith))

pub in_at : {A : Type 0} (d x : A) (xs : List A) → In x xs → (i : ℕ) × (i < length xs) × (get_or xs i d ≡ x)
in_at d x [] h = absurd h
in_at d x (y ∷ xs) (inl e) = (0, omega arith, sym e)
in_at d x (y ∷ xs) (inr h) = let (i, l, q) = in_at d x xs h in (suc i, omega arith, q)

pub append_in : {A : Type 0} (x : A) (xs ys : List A) → In x (xs ++ ys) → In x xs ⊎ In x ys
append_in x [] ys h = inr h
append_in x (y ∷ xs) ys (inl e) = inl (inl e)
append_in x (y ∷ xs) ys (inr h) = elim (append_in x xs ys h) [ inl a ↦ inl (inr a) | inr b ↦ inr b ]

pub in_append : {A : Type 0} (x : A) (xs ys : List A) → In x xs ⊎ In x ys → In x (xs ++ ys)
in_append x [] ys (inl a) = absurd a
in_append x [] ys (inr b) = b
in_append x (y ∷ xs) ys (inl (inl e)) = inl e
in_append x (y ∷ xs) ys (inl (inr h)) = inr (in_append x xs ys (inl h))
in_append x (y ∷ xs) ys (inr h) = inr (in_append x xs ys (inr h))

pub all_last : {A : Type 0} (P : A → Type 0) (xs : List A) (x : A) → All P xs → P x → All P (xs ++ (x ∷ []))
all_last P xs x all p y h = elim (append_in y xs (x ∷ []) h) [ inl m ↦ all y m | inr m ↦ all_one P x p y m ]

pub map_in : {A B : Type 0} (f : A → B) (z : B) (xs : List A) → In z (map f xs) → (x : A) × In x xs × (z ≡ f x)
map_in f z [] h = absurd h
map_in f z (y ∷ ys) (inl e) = (y, inl refl, e)
map_in f z (y ∷ ys) (inr h) = let (x, m, q) = map_in f z ys h in (x, inr m, q)

pub in_map : {A B : Type 0} (f : A → B) (x : A) (xs : List A) → In x xs → In (f x) (map f xs)
in_map f x [] h = absurd h
in_map f x (y ∷ ys) (inl e) = inl (ap f e)
in_map f x (y ∷ ys) (inr h) = inr (in_map f x ys h)

pub map_at : {A B : Type 0} (f : A → B) (d : A) (e : B) (xs : List A) (i : ℕ) → i < length xs
    → get_or (map f xs) i e ≡ f (get_or xs i d)
map_at f d e [] i l = absurd (omega arith)
map_at f d e (x ∷ xs) zero l = refl
map_at f d e (x ∷ xs) (suc i) l = map_at f d e xs i (omega arith)

-- a test holds of one of them
pub or_iff : (a b : Bool) → (a || b) ≡ true ↔ ((a ≡ true) ⊎ (b ≡ true))
or_iff true b = (λ e. inl refl, λ h. refl)
or_iff false b = (λ e. inr e, λ h. elim h [ inl e ↦ absurd (false≢true e) | inr e ↦ e ])

pub any_iff : {A : Type 0} (test : A → Bool) (us : List A) → any test us ≡ true ↔ ((u : A) × In u us × (test u ≡ true))
unfolding any
any_iff {A} test [] = (λ e. absurd (false≢true e), λ (u, m, e). absurd m)
any_iff {A} test (u ∷ us) = (there (any_iff test us), back (any_iff test us))
  where
    Some : List A → Type 0
    Some vs = (v : A) × In v vs × (test v ≡ true)

    there : any test us ≡ true ↔ Some us → (test u || any test us) ≡ true → Some (u ∷ us)
    there ih e =
        elim ((or_iff (test u) (any test us)).0 e)
        [ inl p ↦ (u, inl refl, p) | inr p ↦ (let (v, m, q) = ih.0 p in (v, inr m, q)) ]

    back : any test us ≡ true ↔ Some us → Some (u ∷ us) → (test u || any test us) ≡ true
    back ih (v, inl p, e) = (or_iff (test u) (any test us)).1 (inl (subst (λ (x : A). test x ≡ true) p e))
    back ih (v, inr m, e) = (or_iff (test u) (any test us)).1 (inr (ih.1 (v, m, e)))

-- a test through a map under which it stays the same
pub any_map : {A B : Type 0} (g : A → B) (p : B → Bool) (q : A → Bool) (xs : List A)
    → ((x : A) → In x xs → p (g x) ≡ q x) → any p (map g xs) ≡ any q xs
unfolding any
any_map g p q [] same = refl
any_map g p q (x ∷ xs) same = rw (same x (inl refl), any_map g p q xs (λ y m. same y (inr m)))

-- a test holds of one of the elements of two lists
pub any_append : {A : Type 0} (test : A → Bool) (xs ys : List A) → any test (xs ++ ys) ≡ (any test xs || any test ys)
unfolding any
any_append test [] ys = refl
any_append test (x ∷ xs) ys = go (test x) (any_append test xs ys)
  where
    go : (b : Bool) → any test (xs ++ ys) ≡ (any test xs || any test ys)
        → (b || any test (xs ++ ys)) ≡ ((b || any test xs) || any test ys)
    go true ih = refl
    go false ih = ih

-- a test holds of a number below n
pub below_iff : (test : ℕ → Bool) (n : ℕ) → any_below test n ≡ true ↔ ((i : ℕ) × (i < n) × (test i ≡ true))
unfolding any_below
below_iff test zero = (λ e. absurd (false≢true e), λ (i, l, e). absurd (omega arith))
below_iff test (suc n) = (there (below_iff test n), back (below_iff test n))
  where
    Some : ℕ → Type 0
    Some k = (i : ℕ) × (i < k) × (test i ≡ true)

    there : any_below test n ≡ true ↔ Some n → (any_below test n || test n) ≡ true → Some (suc n)
    there ih e = elim ((or_iff (any_below test n) (test n)).0 e) [
      | inl p ↦ (let (i, l, q) = ih.0 p in (i, omega arith, q))
      | inr p ↦ (n, omega arith, p)
    ]

    back : any_below test n ≡ true ↔ Some n → Some (suc n) → (any_below test n || test n) ≡ true
    back ih (i, l, q) = (or_iff (any_below test n) (test n)).1 (pick (ℕ_discrete i n))
      where
        pick : Dec (i ≡ n) → (any_below test n ≡ true) ⊎ (test n ≡ true)
        pick (yes e) = inr (subst (λ (k : ℕ). test k ≡ true) e q)
        pick (no e) = inl (ih.1 (i, omega arith, q))
