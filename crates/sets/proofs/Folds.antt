-- A loop over a list from its last element to its first is a right fold of that list: one law for each of its needs.
-- Assumes nothing.
use mathlib.Core.Path.{◌≡◌, refl, ◌∙◌, ap}
use mathlib.Core.List.{List, [], ◌∷◌, reverse}
use lib.Bits.{bit_or, or_comm}
use Prim.Native.Nat.{ℕ, suc, ◌+◌, ◌-◌, ◌<◌}
use native.Mathlib.Omega.{arith}
use lib.ListN.{length, get_or, drop, drop_of_length-le}
use lib.Seq.{drop-cons}
use borrow.Author.Tests.{ne_eqb}
use Rattle.std.proofs.lemmas.List.{get_or-reverse, length-reverse}
use Rattle.std.proofs.lemmas.Grind.{get_or_default_zero}
use Rattle.sets.specs.declared.Joined.{Joined}
use Rattle.sets.specs.Sets.{Updates, Joins, conflict_n, insert_n, union_n, insert_join_n, insert_joins_n}
use Rattle.sets.specs.Sets.{insert_product_n}
use Rattle.sets.specs.Sets.{union, insert_join, insert_joins, insert_product}
use Rattle.sets.specs.Sets.{join_conflicts, product_conflicts, join_conflicts_n, product_conflicts_n}

-- F is the fold of f
pub record Fold (F : List ℕ → List ℕ → List ℕ) (f : ℕ → List ℕ → List ℕ) : Type 0 where
  pub nil : (vs : List ℕ) → F [] vs ≡ vs
  pub cons : (x : ℕ) (xs vs : List ℕ) → F (x ∷ xs) vs ≡ f x (F xs vs)

pub fold_union : Fold union_n insert_n
unfolding union
fold_union = record { nil = λ _. refl; cons = λ _ _ _. refl }

pub fold_joins : (x : ℕ) → Fold (insert_joins_n x) (insert_join_n x)
unfolding insert_joins
fold_joins x = record { nil = λ _. refl; cons = λ _ _ _. refl }

pub fold_product : (ys : List ℕ) → Fold (λ xs. insert_product_n xs ys) (λ x. insert_joins_n x ys)
unfolding insert_product
fold_product ys = record { nil = λ _. refl; cons = λ _ _ _. refl }

-- a loop from the last of ts down to the first that has seen k of them: what it has done so far is F over those
pub record Folding (F : List ℕ → List ℕ → List ℕ) (ts before : List ℕ) (c : ℕ) (after : List ℕ) (d k : ℕ)
    : Type 0 where
  pub size : length after ≡ length before
  pub done : Updates before c after d (F (drop (length ts - k) ts))

-- y comes after the last k of ts
pub record Turn (ts : List ℕ) (k y : ℕ) : Type 0 where
  pub within : k < length ts
  pub is : y ≡ get_or ts (length ts - 1 - k) 0

-- what the iterator says of its turn
pub turn : {ts : List ℕ} {k y : ℕ} → (k < length (reverse ts)) × (y ≡ get_or (reverse ts) k y) → Turn ts k y
turn {ts} {k} {y} (lt, e) =
    let within : k < length ts = omega (arith, length-reverse ts) in
    record {
      within = within;
      is = e ∙ get_or-reverse ts k y within ∙ get_or_default_zero ts (length ts - 1 - k) y (omega arith);
    }

-- the elements from that one on
next_drop : {ts : List ℕ} {k y : ℕ} → Turn ts k y
    → drop (length ts - (k + 1)) ts ≡ y ∷ drop (length ts - k) ts
next_drop {ts} {k} {y} t =
    let i = length ts - 1 - k in
    let at : length ts - (k + 1) ≡ i = omega (arith, t.within) in
    let k : suc i ≡ length ts - k = omega (arith, t.within) in
    ap (λ (n : ℕ). drop n ts) at ∙ drop-cons ts i 0 (omega (arith, t.within)) ∙ rw (k, ← t.is)

module _ {F : List ℕ → List ℕ → List ℕ} {f : ℕ → List ℕ → List ℕ} (fold : Fold F f) (ts : List ℕ) where
  pub fold_begins : (xs : List ℕ) (c : ℕ) → Folding F ts xs c xs c 0
  fold_begins xs c = record {
    size = refl;
    done = record {
      updates = λ vs i. rw (drop_of_length-le ts {i = length ts - 0} (omega arith), fold.nil) i;
    };
  }

  pub fold_steps : {k y : ℕ} → Turn ts k y → {xs ys zs : List ℕ} {c d e : ℕ} → Folding F ts xs c ys d k
      → length zs ≡ length ys → Updates ys d zs e (f y) → Folding F ts xs c zs e (k + 1)
  fold_steps t inv size turn = record {
    size = size ∙ inv.size;
    done = record { updates = λ vs i. rw (next_drop t, fold.cons) (turn.updates _ (inv.done.updates vs i)) };
  }

-- G gathers the bits of g
pub record Gather (G : List ℕ → ℕ) (g : ℕ → ℕ) : Type 0 where
  pub nil : G [] ≡ 0
  pub cons : (x : ℕ) (xs : List ℕ) → G (x ∷ xs) ≡ bit_or (g x) (G xs)

pub gather_joins : (x : ℕ) → Gather (join_conflicts_n x) (λ y. conflict_n (bit_or x y))
unfolding join_conflicts
gather_joins x = record { nil = refl; cons = λ _ _. refl }

pub gather_product : (ys : List ℕ) → Gather (λ xs. product_conflicts_n xs ys) (λ x. join_conflicts_n x ys)
unfolding product_conflicts
gather_product ys = record { nil = refl; cons = λ _ _. refl }

-- such a loop that also gathers the bits of G
pub record Joining (F : List ℕ → List ℕ → List ℕ) (G : List ℕ → ℕ) (ts before : List ℕ) (c : ℕ) (after : List ℕ)
    (d e k : ℕ) : Type 0 where
  pub folding : Folding F ts before c after d k
  pub gathered : e ≡ G (drop (length ts - k) ts)

module _ {F : List ℕ → List ℕ → List ℕ} {f : ℕ → List ℕ → List ℕ} (fold : Fold F f) {G : List ℕ → ℕ} {g : ℕ → ℕ}
    (gather : Gather G g) (ts : List ℕ) where
  pub joining_begins : (xs : List ℕ) (c : ℕ) → Joining F G ts xs c xs c 0 0
  joining_begins xs c = record {
    folding = fold_begins fold ts xs c;
    gathered = rw (drop_of_length-le ts {i = length ts - 0} (omega arith), gather.nil);
  }

  pub joining_steps : {k y : ℕ} → Turn ts k y → {xs ys zs : List ℕ} {c d e : ℕ} {r : Joined}
      → Joining F G ts xs c ys d e k → length zs ≡ length ys → Joins ys d zs r (f y) (g y)
      → Joining F G ts xs c zs r.count (bit_or e r.conflicts) (k + 1)
  joining_steps {k} {y} t {e = e} {r = r} inv size turn = record {
    folding = fold_steps fold ts t inv.folding size (record { updates = turn.updates });
    gathered = or_comm e r.conflicts ∙ rw (next_drop t, gather.cons, turn.conflicts, inv.gathered);
  }

-- one join: kept where no bit is shared, else dropped
module _ (x y : ℕ) {shared : ℕ} (is : shared ≡ conflict_n (bit_or x y)) where
  pub join_kept : {xs ys : List ℕ} {c d : ℕ} → shared ≡ 0 → Updates xs c ys d (insert_n (bit_or x y))
      → Joins xs c ys (record { count = d; conflicts = shared }) (insert_join_n x y) (conflict_n (bit_or x y))
  unfolding insert_join
  join_kept q turn = record { updates = λ vs i. rw (insert_join, ← is, q) (turn.updates vs i); conflicts = is }

  pub join_dropped : (xs : List ℕ) (c : ℕ) → (shared ≡ 0 → ⊥)
      → Joins xs c xs (record { count = c; conflicts = shared }) (insert_join_n x y) (conflict_n (bit_or x y))
  unfolding insert_join
  join_dropped xs c q = record { updates = λ vs i. rw (insert_join, ← is, ne_eqb shared 0 q) i; conflicts = is }
