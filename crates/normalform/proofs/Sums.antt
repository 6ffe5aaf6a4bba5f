-- Sums of a function over the numbers below a bound and over a list: a set's sum is at most that of a list which has
-- all its members, a list's at most that over all numbers, if what counts stands there once. Assumes nothing.
use Prim.Native.Nat.{ℕ, zero, suc, ◌+◌, ◌*◌, ◌<◌, ◌≤◌}
use mathlib.Core.Path.{◌≡◌, refl, ap}
use mathlib.Core.Bool.{Bool, true, false, cond, ◌||◌, false≢true}
use mathlib.Core.Logic.{◌⊎◌, inl, inr}
use mathlib.Core.List.{List, [], ◌∷◌, ◌++◌}
use native.Mathlib.Nat.{add-mul, mul-le-mul_right}
use native.Mathlib.Omega.{arith}
use native.Mathlib.Decide.{ℕ_discrete, dec_lt}
use lib.Dec.{eqb, ltb}
use borrow.Author.Tests.{eq-eqb, ne_eqb, lt-ltb, le-ltb}
use Rattle.formula.proofs.Untils.{one_at_most}
use Rattle.normalform.specs.NormalForm.{member}
use Rattle.normalform.proofs.Shape.{member_head, member_tail, member_cases}

-- of f at 0 to n - 1
unfoldable pub sum : (ℕ → ℕ) → ℕ → ℕ
sum f zero = 0
sum f (suc n) = sum f n + f n

-- of f at a list's members, each as often as it stands there
unfoldable pub over : (ℕ → ℕ) → List ℕ → ℕ
over f [] = 0
over f (x ∷ xs) = f x + over f xs

-- 1 where x is k; and how often k stands in a list
abbrev pub one : (k x : ℕ) → ℕ
one k x = cond (eqb x k) 1 0

abbrev pub count : ℕ → List ℕ → ℕ
count k xs = over (one k) xs

pub one_is : (k x : ℕ) → x ≡ k → one k x ≡ 1
one_is k x e = rw (eq-eqb x k e)

pub one_other : (k x : ℕ) → (x ≡ k → ⊥) → one k x ≡ 0
one_other k x h = rw (ne_eqb x k h)

pub one_most : (k x : ℕ) → one k x ≤ 1
one_most k x = one_at_most (eqb x k)

pub over_append : (f : ℕ → ℕ) (xs ys : List ℕ) → over f (xs ++ ys) ≡ over f xs + over f ys
unfolding over
over_append f [] ys = omega arith
over_append f (x ∷ xs) ys = omega (arith, over_append f xs ys)

pub count_zero : (x : ℕ) (xs : List ℕ) → (member x xs ≡ true → ⊥) → count x xs ≡ 0
unfolding over
count_zero x [] h = refl
count_zero x (y ∷ ys) h =
    let z = one_other x y (λ e. h (rw e (member_head x ys))) in
    omega (arith, count_zero x ys (λ e. h (member_tail x y ys e)))

pub count_some : (x : ℕ) (xs : List ℕ) → member x xs ≡ true → 0 < count x xs
unfolding over
count_some x [] e = absurd (false≢true (unfold member in e))
count_some x (y ∷ ys) e = elim (member_cases x y ys e) [
  | inl f ↦ omega (arith, one_is x y f)
  | inr f ↦ omega (arith, count_some x ys f)
]

pub over_some : (f : ℕ → ℕ) (xs : List ℕ) → 0 < over f xs → (c : ℕ) × (member c xs ≡ true) × (0 < f c)
unfolding over
over_some f [] l = absurd (omega arith)
over_some f (x ∷ xs) l = go (dec_lt 0 (f x)) (λ l. over_some f xs l)
  where
    go : Dec (0 < f x) → (0 < over f xs → (c : ℕ) × (member c xs ≡ true) × (0 < f c))
        → (c : ℕ) × (member c (x ∷ xs) ≡ true) × (0 < f c)
    go (yes some) ih = (x, member_head x xs, some)
    go (no none) ih = let (c, e, some) = ih (omega arith) in (c, member_tail c x xs e, some)

pub sum_most : (f g : ℕ → ℕ) (n : ℕ) → ((i : ℕ) → i < n → f i ≤ g i) → sum f n ≤ sum g n
unfolding sum
sum_most f g zero h = omega arith
sum_most f g (suc n) h = omega (arith, sum_most f g n (λ i l. h i (omega arith)), h n (omega arith))

sum_plus : (f g : ℕ → ℕ) (n : ℕ) → sum (λ i. f i + g i) n ≡ sum f n + sum g n
unfolding sum
sum_plus f g zero = omega arith
sum_plus f g (suc n) = omega (arith, sum_plus f g n)

pub sum_none : (f : ℕ → ℕ) (n : ℕ) → ((i : ℕ) → i < n → f i ≡ 0) → sum f n ≡ 0
unfolding sum
sum_none f zero h = refl
sum_none f (suc n) h = omega (arith, sum_none f n (λ i l. h i (omega arith)), h n (omega arith))

pub sum_some : (f : ℕ → ℕ) (n i : ℕ) → i < n → f i ≤ sum f n
unfolding sum
sum_some f zero i l = absurd (omega arith)
sum_some f (suc n) i l = go (ℕ_discrete i n) (λ l. sum_some f n i l)
  where
    go : Dec (i ≡ n) → (i < n → f i ≤ sum f n) → f i ≤ sum f n + f n
    go (yes e) ih = rw e (omega arith)
    go (no e) ih = omega (arith, ih (omega arith))

-- ---- a set's sum is at most a list's
abbrev only : (ℕ → ℕ) → ℕ → ℕ → ℕ
only f x c = cond (eqb x c) (f c) 0

sum_only : (f : ℕ → ℕ) (x n : ℕ) → sum (only f x) n ≤ cond (ltb x n) (f x) 0
unfolding sum
sum_only f x zero = omega arith
sum_only f x (suc n) = go (ℕ_discrete x n) (dec_lt x n) (sum_only f x n)
  where
    go : Dec (x ≡ n) → Dec (x < n) → sum (only f x) n ≤ cond (ltb x n) (f x) 0
        → sum (only f x) n + only f x n ≤ cond (ltb x (suc n)) (f x) 0
    go (yes e) d ih =
        let z : sum (only f x) n ≤ 0 = rw (le-ltb x n (omega arith)) at ih in
        rw (lt-ltb x (suc n) (omega arith), eq-eqb x n e) (omega (arith, ap f e))
    go (no e) (yes l) ih =
        let z : sum (only f x) n ≤ f x = rw (lt-ltb x n l) at ih in
        rw (lt-ltb x (suc n) (omega arith), ne_eqb x n e) (omega arith)
    go (no e) (no l) ih =
        let z : sum (only f x) n ≤ 0 = rw (le-ltb x n (omega arith)) at ih in
        rw (le-ltb x (suc n) (omega arith), ne_eqb x n e) (omega arith)

cond_most : (b : Bool) (x : ℕ) → cond b x 0 ≤ x
cond_most true x = omega arith
cond_most false x = omega arith

either_most : (a b : Bool) (x : ℕ) → cond (a || b) x 0 ≤ cond a x 0 + cond b x 0
either_most true true x = omega arith
either_most true false x = omega arith
either_most false true x = omega arith
either_most false false x = omega arith

pub member_sum : (f : ℕ → ℕ) (xs : List ℕ) (n : ℕ) → sum (λ c. cond (member c xs) (f c) 0) n ≤ over f xs
unfolding over member
member_sum f [] n = omega (arith, sum_none (λ c. 0) n (λ i l. refl))
member_sum f (x ∷ xs) n =
    omega (
      arith,
      sum_most (λ c. cond (eqb x c || member c xs) (f c) 0) (λ c. only f x c + cond (member c xs) (f c) 0) n
          (λ i l. either_most (eqb x i) (member i xs) (f i)),
      sum_plus (only f x) (λ c. cond (member c xs) (f c) 0) n,
      sum_only f x n,
      cond_most (ltb x n) (f x),
      member_sum f xs n,
    )

-- ---- a list's sum is at most that of all numbers, if what counts stands there once
abbrev pub AllBelow : ℕ → List ℕ → Type 0
AllBelow m [] = Unit {0}
AllBelow m (x ∷ xs) = (x < m) × AllBelow m xs

pub all_append : (m : ℕ) (xs ys : List ℕ) → AllBelow m xs → AllBelow m ys → AllBelow m (xs ++ ys)
all_append m [] ys a b = b
all_append m (x ∷ xs) ys a b = (a.0, all_append m xs ys a.1 b)

pub all_more : (m k : ℕ) (xs : List ℕ) → m ≤ k → AllBelow m xs → AllBelow k xs
all_more m k [] l a = tt
all_more m k (x ∷ xs) l a = (omega (arith, a.0), all_more m k xs l a.1)

abbrev cut : (ℕ → ℕ) → ℕ → ℕ → ℕ
cut f m x = cond (ltb x m) (f x) 0

cut_whole : (f : ℕ → ℕ) (m : ℕ) (xs : List ℕ) → AllBelow m xs → over f xs ≡ over (cut f m) xs
unfolding over
cut_whole f m [] a = refl
cut_whole f m (x ∷ xs) a = rw (lt-ltb x m a.0) (ap (λ (y : ℕ). f x + y) (cut_whole f m xs a.1))

cut_none : (f : ℕ → ℕ) (xs : List ℕ) → over (cut f 0) xs ≡ 0
unfolding over
cut_none f [] = refl
cut_none f (x ∷ xs) = rw (le-ltb x 0 (omega arith)) (omega (arith, cut_none f xs))

-- a member other than m
cut_other : (f : ℕ → ℕ) (m x : ℕ) → (x ≡ m → ⊥) → cut f (suc m) x ≡ cut f m x
cut_other f m x e = go (dec_lt x m)
  where
    go : Dec (x < m) → cut f (suc m) x ≡ cut f m x
    go (yes l) = rw (lt-ltb x m l, lt-ltb x (suc m) (omega arith)) refl
    go (no l) = rw (le-ltb x m (omega arith), le-ltb x (suc m) (omega arith)) refl

cut_split : (f : ℕ → ℕ) (m : ℕ) (xs : List ℕ) → over (cut f (suc m)) xs ≡ over (cut f m) xs + count m xs * f m
unfolding over
cut_split f m [] = omega arith
cut_split f m (x ∷ xs) = go (ℕ_discrete x m) (cut_split f m xs)
  where
    go : Dec (x ≡ m) → over (cut f (suc m)) xs ≡ over (cut f m) xs + count m xs * f m
        → cut f (suc m) x + over (cut f (suc m)) xs ≡ cut f m x + over (cut f m) xs + (one m x + count m xs) * f m
    go (yes e) ih =
        rw (lt-ltb x (suc m) (omega arith), le-ltb x m (omega arith), eq-eqb x m e)
        (omega (arith, ih, ap f e, add-mul 1 (count m xs) (f m)))
    go (no e) ih = rw (ne_eqb x m e) (omega (arith, ih, cut_other f m x e, add-mul 0 (count m xs) (f m)))

times_most : (x y : ℕ) → (x ≡ 0) ⊎ (y ≤ 1) → y * x ≤ x
times_most x y (inl e) = rw e (omega arith)
times_most x y (inr l) = omega (arith, mul-le-mul_right x l)

cut_sum : (f : ℕ → ℕ) (m : ℕ) (xs : List ℕ) → ((p : ℕ) → p < m → (f p ≡ 0) ⊎ (count p xs ≤ 1))
    → over (cut f m) xs ≤ sum f m
unfolding sum
cut_sum f zero xs h = omega (arith, cut_none f xs)
cut_sum f (suc m) xs h =
    omega (
      arith,
      cut_sum f m xs (λ p l. h p (omega arith)),
      cut_split f m xs,
      times_most (f m) (count m xs) (h m (omega arith)),
    )

pub once_sum : (f : ℕ → ℕ) (m : ℕ) (xs : List ℕ) → AllBelow m xs → ((p : ℕ) → p < m → (f p ≡ 0) ⊎ (count p xs ≤ 1))
    → over f xs ≤ sum f m
once_sum f m xs a h = omega (arith, cut_whole f m xs a, cut_sum f m xs h)
