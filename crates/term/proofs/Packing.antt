-- The bridge from terms and cover sets to their numbers: the numbers rise as the terms do, and each operation on lists
-- goes over. Assumes nothing.
use mathlib.Core.Path.{◌≡◌, refl, sym, ap, subst}
use mathlib.Core.Logic.{inl, inr}
use mathlib.Core.List.{List, [], ◌∷◌, map}
use mathlib.Core.Bool.{Bool, true, false, cond}
use Prim.Native.Nat.{ℕ, ◌+◌, ◌*◌, ◌^◌, ◌/◌, ◌%◌, ◌≤◌, ◌<◌}
use native.Mathlib.Omega.{arith}
use lib.Dec.{ltb}
use lib.Bits.{bit_or, or_block, and_block, or_lt, and_zero_r}
use lib.Pow.{pow-lt}
use borrow.Author.Tests.{lt-ltb, le-ltb, ltb-true, ltb-false}
use Rattle.sets.specs.Sets.{insert, union, insert_join, insert_joins, insert_product, conflict_n, consistent_n}
use Rattle.sets.specs.Sets.{insert_n, union_n, insert_join_n, insert_joins_n, insert_product_n}
use Rattle.sets.specs.Sets.{join_conflicts, product_conflicts, join_conflicts_n, product_conflicts_n}
use Rattle.sets.proofs.Members.{All}
use Rattle.formula.specs.Limits.{propositions}
use Rattle.formula.specs.Formula.{Formula, bottom, top, proposition, negated_proposition, conjunction, disjunction}
use Rattle.formula.specs.Formula.{next}
use Rattle.formula.specs.Formula.{until, release, InRange}
use Rattle.term.specs.Term.{Term, term, less_then, less, joined, conflict, consistent, product, conflicts_between}
use Rattle.term.specs.Term.{unions, cover, terms}
use Rattle.term.specs.Memory.{pack, pack_set}

-- what a number for each element of A keeps, on the elements that are Good
pub record Packs {A : Type 0} (less : A → A → Bool) (joined : A → A → A) (consistent : A → Bool) (number : A → ℕ)
    (Good : A → Type 0) : Type 0 where
  pub orders : (x y : A) → Good x → Good y → ltb (number x) (number y) ≡ less x y
  pub joins : (x y : A) → Good x → Good y → bit_or (number x) (number y) ≡ number (joined x y)
  pub drops : (x : A) → Good x → consistent_n (number x) ≡ consistent x
  pub good : (x y : A) → Good x → Good y → Good (joined x y)

module _ {A : Type 0} {less : A → A → Bool} {joined : A → A → A} {consistent : A → Bool} {number : A → ℕ}
    {Good : A → Type 0} (packs : Packs less joined consistent number Good) where
  -- ns are the numbers of xs, which are all good
  pub data Numbers : List A → List ℕ → Type 0 where
    none : Numbers [] []
    more : (x : A) {xs : List A} {ns : List ℕ} → Good x → Numbers xs ns → Numbers (x ∷ xs) (number x ∷ ns)

  pub numbers_are : {xs : List A} {ns : List ℕ} → Numbers xs ns → ns ≡ map number xs
  numbers_are none = refl
  numbers_are (more x g r) = ap {B = List ℕ} (λ l. number x ∷ l) (numbers_are r)

  pub canonical : {xs : List A} {ns : List ℕ} → Numbers xs ns → Numbers xs (map number xs)
  canonical r = rw (numbers_are r) at r

  insert_numbers : (x : A) {ys : List A} {ns : List ℕ} → Good x → Numbers ys ns
      → Numbers (insert less x ys) (insert_n (number x) ns)
  unfolding insert
  insert_numbers x g none = more x g none
  insert_numbers x g (more y {xs} {ns} h r) =
      rw (packs.orders x y g h, packs.orders y x h g) (go (less x y) (less y x) (insert_numbers x g r))
    where
      go : (b c : Bool) → Numbers (insert less x xs) (insert_n (number x) ns)
          → Numbers (cond b (x ∷ (y ∷ xs)) (cond c (y ∷ insert less x xs) (y ∷ xs)))
          (cond b (number x ∷ (number y ∷ ns)) (cond c (number y ∷ insert_n (number x) ns) (number y ∷ ns)))
      go true c ih = more x g (more y h r)
      go false true ih = more y h ih
      go false false ih = more y h r

  pub union_numbers : {xs ys : List A} {ms ns : List ℕ} → Numbers xs ms → Numbers ys ns
      → Numbers (union less xs ys) (union_n ms ns)
  unfolding union
  union_numbers none s = s
  union_numbers (more x g r) s = insert_numbers x g (union_numbers r s)

  join_numbers : (x y : A) {ws : List A} {ns : List ℕ} → Good x → Good y → Numbers ws ns
      → Numbers (insert_join less joined consistent x y ws) (insert_join_n (number x) (number y) ns)
  unfolding insert_join
  join_numbers x y {ws} {ns} g h s =
      rw (packs.joins x y g h, packs.drops (joined x y) (packs.good x y g h)) (go (consistent (joined x y)))
    where
      go : (b : Bool)
          → Numbers (cond b (insert less (joined x y) ws) ws) (cond b (insert_n (number (joined x y)) ns) ns)
      go true = insert_numbers (joined x y) (packs.good x y g h) s
      go false = s

  joins_numbers : (x : A) {ys ws : List A} {ms ns : List ℕ} → Good x → Numbers ys ms → Numbers ws ns
      → Numbers (insert_joins less joined consistent x ys ws) (insert_joins_n (number x) ms ns)
  unfolding insert_joins
  joins_numbers x g none s = s
  joins_numbers x g (more y h r) s = join_numbers x y g h (joins_numbers x g r s)

  pub product_numbers : {xs ys : List A} {ms ns : List ℕ} → Numbers xs ms → Numbers ys ns
      → Numbers (insert_product less joined consistent xs ys []) (insert_product_n ms ns [])
  unfolding insert_product
  product_numbers none s = none
  product_numbers (more x g r) s = joins_numbers x g s (product_numbers r s)

-- ---- terms: must and must_not are bytes
pub record Bytes (t : Term) : Type 0 where
  pub must : t.must < 256
  pub must_not : t.must_not < 256

less_then_is : (x y : ℕ) (b c : Bool) → (x < y → c ≡ true) → (y < x → c ≡ false) → (x ≡ y → c ≡ b) → c ≡ less_then x y b
less_then_is x y b c l m s = go (ltb x y) (ltb y x) refl refl
  where
    go : (p q : Bool) → ltb x y ≡ p → ltb y x ≡ q → c ≡ cond p true (cond q false b)
    go true q e f = l (ltb-true x y e)
    go false true e f = m (ltb-true y x f)
    go false false e f = s (omega (arith, ltb-false x y e, ltb-false y x f))

same_test : (a b c d : ℕ) → (a < b → c < d) → (b ≤ a → d ≤ c) → ltb c d ≡ ltb a b
same_test a b c d l m = go (ltb a b) refl
  where
    go : (p : Bool) → ltb a b ≡ p → ltb c d ≡ p
    go true e = lt-ltb c d (l (ltb-true a b e))
    go false e = le-ltb c d (m (ltb-false a b e))

pack_orders : (x y : Term) → Bytes x → Bytes y → ltb (pack x) (pack y) ≡ less x y
pack_orders x y g h =
    less_then_is x.obligations y.obligations _ _ (λ l. lt-ltb (pack x) (pack y) (omega arith))
    (λ l. le-ltb (pack x) (pack y) (omega arith))
    (λ e. less_then_is x.must y.must _ _ (λ l. lt-ltb (pack x) (pack y) (omega arith))
    (λ l. le-ltb (pack x) (pack y) (omega arith))
    (λ f. same_test x.must_not y.must_not (pack x) (pack y) (λ l. omega arith) (λ l. omega arith)))

pack_blocks : (t : Term) → pack t ≡ (t.obligations * 256 + t.must) * 256 + t.must_not
pack_blocks t = omega arith

pack_joins : (x y : Term) → Bytes x → Bytes y → bit_or (pack x) (pack y) ≡ pack (joined x y)
pack_joins x y g h =
    rw (
      pack_blocks x,
      pack_blocks y,
      pack_blocks (joined x y),
      or_block 8 (x.obligations * 256 + x.must)
          (y.obligations * 256 + y.must) x.must_not y.must_not g.must_not h.must_not,
      or_block 8 x.obligations y.obligations
          x.must y.must g.must h.must,
    )

pack_conflict : (t : Term) → Bytes t → conflict_n (pack t) ≡ conflict t
pack_conflict t g =
    let a : pack t / 256 ≡ t.obligations * 256 + t.must = omega arith in
    let b : pack t % 256 ≡ 0 * 256 + t.must_not = omega arith in
    rw (a, b, and_block 8 t.obligations 0 t.must t.must_not g.must g.must_not, and_zero_r) (omega arith)

pack_drops : (t : Term) → Bytes t → consistent_n (pack t) ≡ consistent t
pack_drops t g = rw (pack_conflict t g)

pub of_terms : Packs less joined consistent pack Bytes
of_terms = record {
  orders = pack_orders;
  joins = pack_joins;
  drops = pack_drops;
  good = λ x y g h. record {
    must = or_lt 8 x.must y.must g.must h.must;
    must_not = or_lt 8 x.must_not y.must_not
        g.must_not h.must_not;
  };
}

-- terms that have numbers are such
pub numbers_bytes : {ts : List Term} {ns : List ℕ} → Numbers of_terms ts ns → All Bytes ts
numbers_bytes none t h = absurd h
numbers_bytes (more u own rest) t (inl e) = subst Bytes (sym e) own
numbers_bytes (more u own rest) t (inr h) = numbers_bytes rest t h

-- and the conflicts of their joins are those of the numbers' joins
join_conflicts_lem : (x : Term) {ys : List Term} {ns : List ℕ} → Bytes x → Numbers of_terms ys ns
    → join_conflicts_n (pack x) ns ≡ join_conflicts joined conflict x ys
unfolding join_conflicts
join_conflicts_lem x g none = refl
join_conflicts_lem x g (more y h r) =
    rw (pack_joins x y g h, pack_conflict (joined x y) (of_terms.good x y g h), join_conflicts_lem x g r)

pub conflicts_numbers : {xs ys : List Term} {ms ns : List ℕ} → Numbers of_terms xs ms → Numbers of_terms ys ns
    → product_conflicts_n ms ns ≡ conflicts_between xs ys
unfolding product_conflicts
conflicts_numbers none s = refl
conflicts_numbers (more x g r) s = rw (join_conflicts_lem x g s, conflicts_numbers r s)

-- ---- cover sets
set_joins : (c d : ℕ) → bit_or (pack_set c) (pack_set d) ≡ pack_set (bit_or c d)
set_joins c d =
    let a : pack_set c ≡ c * 65536 + 0 = omega arith in
    let b : pack_set d ≡ d * 65536 + 0 = omega arith in
    rw (a, b, or_block 16 c d 0 0 (omega arith) (omega arith)) (omega arith)

pub set_drops : (c : ℕ) → consistent_n (pack_set c) ≡ true
set_drops c =
    let b : pack_set c % 256 ≡ 0 = omega arith in
    rw (b, and_zero_r)

of_sets : Packs ltb bit_or (λ _. true) pack_set (λ _. Unit {0})
of_sets = record {
  orders = λ c d _ _. same_test c d (pack_set c) (pack_set d) (λ l. omega arith) (λ l. omega arith);
  joins = λ c d _ _. set_joins c d;
  drops = λ c _. set_drops c;
  good = λ _ _ _ _. tt;
}

all_sets : (cs : List ℕ) → Numbers of_sets cs (map pack_set cs)
all_sets [] = none
all_sets (c ∷ cs) = more c tt (all_sets cs)

pub pack_unions : (cs ds : List ℕ)
    → map pack_set (unions cs ds) ≡ insert_product_n (map pack_set cs) (map pack_set ds) []
pack_unions cs ds = sym (numbers_are of_sets (product_numbers of_sets (all_sets cs) (all_sets ds)))

pub pack_union : (cs ds : List ℕ) → map pack_set (union ltb cs ds) ≡ union_n (map pack_set cs) (map pack_set ds)
pack_union cs ds = sym (numbers_are of_sets (union_numbers of_sets (all_sets cs) (all_sets ds)))

-- ---- the terms of a formula
pub pack_must : (m : ℕ) → pack (term m 0 0) ≡ m * 256
pack_must m = omega arith

pub pack_must_not : (m : ℕ) → pack (term 0 m 0) ≡ m
pack_must_not m = omega arith

pub pack_owing : (cs : List ℕ) → map pack (map (term 0 0) cs) ≡ map pack_set cs
pack_owing [] = refl
pack_owing (c ∷ cs) =
    let e : pack (term 0 0 c) ≡ pack_set c = omega arith in
    rw (e, pack_owing cs)

pub owing_numbers : (cs : List ℕ) → Numbers of_terms (map (term 0 0) cs) (map pack (map (term 0 0) cs))
owing_numbers [] = none
owing_numbers (c ∷ cs) = more (term 0 0 c) (record { must = omega arith; must_not = omega arith }) (owing_numbers cs)

own_numbers : (c : ℕ) → Numbers of_terms (term 0 0 c ∷ []) (pack_set c ∷ [])
own_numbers c = rw (pack_owing (c ∷ [])) at (owing_numbers (c ∷ []))

pub terms_numbers : (f : Formula) → InRange f → Numbers of_terms (terms f) (map pack (terms f))
unfolding terms InRange
terms_numbers bottom m = none
terms_numbers top m = owing_numbers (0 ∷ [])
terms_numbers (proposition n p) m =
    more (term (2 ^ p) 0 0) (record { must = omega (arith, pow-lt {j = propositions} m); must_not = omega arith }) none
terms_numbers (negated_proposition n p) m =
    more (term 0 (2 ^ p) 0) (record { must = omega arith; must_not = omega (arith, pow-lt {j = propositions} m) }) none
terms_numbers (conjunction a b) m =
    canonical of_terms (product_numbers of_terms (terms_numbers a m.0) (terms_numbers b m.1))
terms_numbers (disjunction a b) m =
    canonical of_terms (union_numbers of_terms (terms_numbers a m.0) (terms_numbers b m.1))
terms_numbers (next n a) m = owing_numbers (cover a)
terms_numbers (until n a b) m =
    canonical of_terms (union_numbers of_terms (terms_numbers b m.1)
    (product_numbers of_terms (terms_numbers a m.0) (own_numbers (2 ^ n))))
terms_numbers (release n a b) m =
    canonical of_terms (product_numbers of_terms (terms_numbers b m.1)
    (union_numbers of_terms (terms_numbers a m.0) (own_numbers (2 ^ n))))

module _ (n : ℕ) (a b : Formula) (ma : InRange a) (mb : InRange b) where
  pub pack_conjunction : map pack (product (terms a) (terms b))
      ≡ insert_product_n (map pack (terms a)) (map pack (terms b)) []
  pack_conjunction = sym (numbers_are of_terms (product_numbers of_terms (terms_numbers a ma) (terms_numbers b mb)))

  pub pack_disjunction : map pack (union less (terms a) (terms b)) ≡ union_n (map pack (terms a)) (map pack (terms b))
  pack_disjunction = sym (numbers_are of_terms (union_numbers of_terms (terms_numbers a ma) (terms_numbers b mb)))

  pub pack_until : map pack (union less (terms b) (product (terms a) (term 0 0 (2 ^ n) ∷ [])))
      ≡ union_n (map pack (terms b)) (insert_product_n (map pack (terms a)) (pack_set (2 ^ n) ∷ []) [])
  pack_until =
      sym (numbers_are of_terms (union_numbers of_terms (terms_numbers b mb)
      (product_numbers of_terms (terms_numbers a ma) (own_numbers (2 ^ n)))))

  pub pack_release : map pack (product (terms b) (union less (terms a) (term 0 0 (2 ^ n) ∷ [])))
      ≡ insert_product_n (map pack (terms b)) (union_n (map pack (terms a)) (pack_set (2 ^ n) ∷ [])) []
  pack_release =
      sym (numbers_are of_terms (product_numbers of_terms (terms_numbers b mb)
      (union_numbers of_terms (terms_numbers a ma) (own_numbers (2 ^ n)))))

  pub conflicts_conjunction : product_conflicts_n (map pack (terms a)) (map pack (terms b))
      ≡ conflicts_between (terms a) (terms b)
  conflicts_conjunction = conflicts_numbers (terms_numbers a ma) (terms_numbers b mb)

  pub conflicts_until : product_conflicts_n (map pack (terms a)) (pack_set (2 ^ n) ∷ [])
      ≡ conflicts_between (terms a) (term 0 0 (2 ^ n) ∷ [])
  conflicts_until = conflicts_numbers (terms_numbers a ma) (own_numbers (2 ^ n))

  pub conflicts_release :
      product_conflicts_n (map pack (terms b)) (union_n (map pack (terms a)) (pack_set (2 ^ n) ∷ []))
      ≡ conflicts_between (terms b) (union less (terms a) (term 0 0 (2 ^ n) ∷ []))
  conflicts_release =
      conflicts_numbers (terms_numbers b mb) (union_numbers of_terms (terms_numbers a ma) (own_numbers (2 ^ n)))
