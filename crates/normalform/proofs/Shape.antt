-- A tree whose nodes are those of a table, by induction on the tree: its codes rise from child to parent, and the entry
-- under a code is that of the tree which it names. Assumes nothing.
use Prim.Native.Nat.{ℕ, ◌+◌, ◌-◌, ◌*◌, ◌/◌, ◌%◌, ◌<◌, ◌≤◌}
use mathlib.Core.Path.{◌≡◌, refl, sym, subst}
use mathlib.Core.Bool.{Bool, true, false, not, ◌||◌, false≢true}
use mathlib.Core.Logic.{◌⊎◌, inl, inr}
use mathlib.Core.List.{List, [], ◌∷◌, ◌++◌, map}
use native.Mathlib.Omega.{arith}
use lib.Dec.{eqb}
use lib.ListN.{length}
use borrow.Author.Tests.{eqb-true, eq-eqb, ne_eqb, le-ltb}
use Rattle.formula.specs.Limits.{propositions}
use Rattle.normalform.specs.Written.{Written, constant, literal, negation, next, binary, future}
use Rattle.normalform.specs.NormalForm.{turned, bit, left_sense, left_constant, pair_code, code, below, walk, entry}
use Rattle.normalform.specs.NormalForm.{subject, sense, member}

-- ---- membership
pub member_head : (c : ℕ) (xs : List ℕ) → member c (c ∷ xs) ≡ true
unfolding member
member_head c xs = rw (eq-eqb c c refl)

pub member_tail : (c x : ℕ) (xs : List ℕ) → member c xs ≡ true → member c (x ∷ xs) ≡ true
unfolding member
member_tail c x xs e = go (eqb x c)
  where
    go : (t : Bool) → (t || member c xs) ≡ true
    go true = refl
    go false = e

pub member_cases : (c x : ℕ) (xs : List ℕ) → member c (x ∷ xs) ≡ true → (x ≡ c) ⊎ (member c xs ≡ true)
unfolding member
member_cases c x xs e = go (eqb x c) refl e
  where
    go : (t : Bool) → eqb x c ≡ t → (t || member c xs) ≡ true → (x ≡ c) ⊎ (member c xs ≡ true)
    go true f e = inl (eqb-true x c f)
    go false f e = inr e

pub member_left : (c : ℕ) (xs ys : List ℕ) → member c xs ≡ true → member c (xs ++ ys) ≡ true
unfolding member
member_left c [] ys e = absurd (false≢true e)
member_left c (x ∷ xs) ys e = go (eqb x c) e (λ e. member_left c xs ys e)
  where
    go : (t : Bool) → (t || member c xs) ≡ true → (member c xs ≡ true → member c (xs ++ ys) ≡ true)
        → (t || member c (xs ++ ys)) ≡ true
    go true e ih = refl
    go false e ih = ih e

pub member_right : (c : ℕ) (xs ys : List ℕ) → member c ys ≡ true → member c (xs ++ ys) ≡ true
member_right c [] ys e = e
member_right c (x ∷ xs) ys e = member_tail c x (xs ++ ys) (member_right c xs ys e)

pub member_split : (c : ℕ) (xs ys : List ℕ) → member c (xs ++ ys) ≡ true
    → (member c xs ≡ true) ⊎ (member c ys ≡ true)
member_split c [] ys e = inr e
member_split c (x ∷ xs) ys e = elim (member_cases c x (xs ++ ys) e) [
  | inl f ↦ inl (subst (λ (z : ℕ). member c (z ∷ xs) ≡ true) (sym f) (member_head c xs))
  | inr f ↦ (elim (member_split c xs ys f) [ inl g ↦ inl (member_tail c x xs g) | inr g ↦ inr g ])
]

module _ (f : ℕ → ℕ) where
  pub member_map : (c : ℕ) (xs : List ℕ) → member c xs ≡ true → member (f c) (map f xs) ≡ true
  member_map c [] e = absurd (false≢true (unfold member in e))
  member_map c (x ∷ xs) e = elim (member_cases c x xs e) [
    | inl g ↦ rw g (member_head (f c) (map f xs))
    | inr g ↦ member_tail (f c) (f x) (map f xs) (member_map c xs g)
  ]

  abbrev From : ℕ → List ℕ → Type 0
  From d xs = (c : ℕ) × (member c xs ≡ true) × (f c ≡ d)

  pub member_from : (d : ℕ) (xs : List ℕ) → member d (map f xs) ≡ true → From d xs
  member_from d [] e = absurd (false≢true (unfold member in e))
  member_from d (x ∷ xs) e = go (member_cases d (f x) (map f xs) e) (λ e. member_from d xs e)
    where
      go : (f x ≡ d) ⊎ (member d (map f xs) ≡ true) → (member d (map f xs) ≡ true → From d xs) → From d (x ∷ xs)
      go (inl g) ih = (x, member_head x xs, g)
      go (inr g) ih = let (c, m, h) = ih g in (c, member_tail c x xs m, h)

-- ---- codes
-- each numbered node is the table's, its children's numbers are below its own, and its own is below m
abbrev pub Fits : (look : ℕ → Written) → Written → ℕ → Type 0
Fits look (constant v) m = Unit {0}
Fits look (literal n v p) m = (n < m) × (look n ≡ literal n v p) × (p < propositions)
Fits look (negation n a) m = (n < m) × (look n ≡ negation n a) × Fits look a n
Fits look (next n a) m = (n < m) × (look n ≡ next n a) × Fits look a n
Fits look (binary n o a b) m = (n < m) × (look n ≡ binary n o a b) × Fits look a n × Fits look b n
Fits look (future n all a) m = (n < m) × (look n ≡ future n all a) × Fits look a n

pub bit_small : (v : Bool) → bit v < 2
bit_small true = omega arith
bit_small false = omega arith

pub bit_low : (v : Bool) (n : ℕ) → bit v < n * 2 + 2
bit_low v n = omega (arith, bit_small v)

pair_low : (n m : ℕ) (s : Bool) → n < m → pair_code n s < m * 2 + 2
pair_low n m s l = omega (arith, bit_small s)

pub pair_high : (n : ℕ) (s : Bool) → n * 2 + 2 ≤ pair_code n s
pair_high n s = omega arith

module _ (look : ℕ → Written) where
  pub code_low : (t : Written) (m : ℕ) (s : Bool) → Fits look t m → code t s < m * 2 + 2
  unfolding code
  code_low (constant v) m s f = bit_low (turned v s) m
  code_low (literal n v p) m s f = pair_low n m s f.0
  code_low (negation n a) m s f = omega (arith, code_low a n (not s) f.2, f.0)
  code_low (next n a) m s f = pair_low n m s f.0
  code_low (binary n o a b) m s f = pair_low n m s f.0
  code_low (future n all a) m s f = pair_low n m s f.0

  child_low : (a : Written) (n : ℕ) (s : Bool) → Fits look a n
      → ((c : ℕ) → member c (below a s) ≡ true → c < code a s) → (c : ℕ) → member c (walk a s) ≡ true → c < n * 2 + 2
  child_low a n s f ih c e = elim (member_cases c (code a s) (below a s) e) [
    | inl g ↦ omega (arith, code_low a n s f)
    | inr g ↦ omega (arith, code_low a n s f, ih c g)
  ]

  -- what a walk comes to below its start has a lower code
  pub below_low : (t : Written) (m : ℕ) (s : Bool) → Fits look t m → (c : ℕ) → member c (below t s) ≡ true
      → c < code t s
  unfolding below code
  below_low (constant v) m s f c e = absurd (false≢true (unfold member in e))
  below_low (literal n v p) m s f c e = absurd (false≢true (unfold member in e))
  below_low (negation n a) m s f c e = below_low a n (not s) f.2 c e
  below_low (next n a) m s f c e =
      omega (arith, pair_high n s, child_low a n s f.2 (below_low a n s f.2) c e)
  below_low (binary n o a b) m s f c e =
      let r = left_sense o s in
      elim (member_split c (walk a r) (walk b s) e) [
        | inl g ↦ omega (arith, pair_high n s, child_low a n r f.2 (below_low a n r f.2) c g)
        | inr g ↦ omega (arith, pair_high n s, child_low b n s f.3 (below_low b n s f.3) c g)
      ]
  below_low (future n all a) m s f c e = elim (member_cases c (bit (left_constant all s)) (walk a s) e) [
    | inl g ↦ omega (arith, pair_high n s, bit_low (left_constant all s) n)
    | inr g ↦ omega (arith, pair_high n s, child_low a n s f.2 (below_low a n s f.2) c g)
  ]

  -- ---- entries
  subject_pair : (n : ℕ) (s : Bool) → subject look (pair_code n s) ≡ look n
  subject_pair n s =
      let e : (pair_code n s - 2) / 2 ≡ n = omega (arith, bit_small s) in
      rw (le-ltb (pair_code n s) 2 (omega arith), e)

  sense_pair : (n : ℕ) (s : Bool) → sense (pair_code n s) ≡ s
  sense_pair n true = eq-eqb (pair_code n true % 2) 1 (omega arith)
  sense_pair n false = ne_eqb (pair_code n false % 2) 1 (λ e. omega arith)

  module _ (at : ℕ → ℕ) where
    entry_pair : (n : ℕ) (s : Bool) (t : Written) → look n ≡ t
        → entry at (subject look (pair_code n s)) (sense (pair_code n s)) ≡ entry at t s
    entry_pair n s t e = rw (subject_pair n s, sense_pair n s, e)

    entry_constant : (v : Bool) → entry at (subject look (bit v)) (sense (bit v)) ≡ bit v ∷ (0 ∷ (0 ∷ []))
    unfolding entry
    entry_constant true = refl
    entry_constant false = refl

    pub entry_code : (t : Written) (m : ℕ) (s : Bool) → Fits look t m
        → entry at (subject look (code t s)) (sense (code t s)) ≡ entry at t s
    unfolding code entry
    entry_code (constant v) m s f = entry_constant (turned v s)
    entry_code (literal n v p) m s f = entry_pair n s (literal n v p) f.1
    entry_code (negation n a) m s f = entry_code a n (not s) f.2
    entry_code (next n a) m s f = entry_pair n s (next n a) f.1
    entry_code (binary n o a b) m s f = entry_pair n s (binary n o a b) f.1
    entry_code (future n all a) m s f = entry_pair n s (future n all a) f.1

    pub entry_length : (t : Written) (s : Bool) → length (entry at t s) ≡ 3
    unfolding entry
    entry_length (constant v) s = refl
    entry_length (literal n v p) s = refl
    entry_length (negation n a) s = entry_length a (not s)
    entry_length (next n a) s = refl
    entry_length (binary n o a b) s = refl
    entry_length (future n all a) s = refl
