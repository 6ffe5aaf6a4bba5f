-- The partial products of a state, as numbers, and what their counts say of number 21.
-- Assumes nothing.
use mathlib.Core.Path.{◌≡◌, refl, sym, ap, ◌∙◌}
use mathlib.Core.Bool.{Bool, true, false}
use mathlib.Core.List.{List, [], ◌∷◌, map}
use Prim.Native.Nat.{ℕ, zero, suc, ◌+◌, ◌≤◌, ◌<◌}
use native.Mathlib.Numerals.{add-one}
use native.Mathlib.Omega.{arith}
use lib.ListN.{length, take, set, length-map, length-set}
use lib.Seq.{length-take-le, take-suc-set}
use lib.Dec.{leb}
use lib.Bits.{bit_or, or_zero_r}
use borrow.Author.Tests.{le-leb, lt-leb}
use Rattle.answer.specs.Result.{Check, require, refused, fine}
use Rattle.answer.proofs.Lowest.{Passing, pass_begins, pass_steps, pass_fails, pass_ends}
use Rattle.formula.specs.Limits.{max_nodes}
use Rattle.formula.specs.Rule.{node_count}
use Rattle.formula.specs.Formula.{tree, InRange}
use Rattle.sets.specs.Bits.{has}
use Rattle.sets.specs.declared.Joined.{Joined}
use Rattle.sets.specs.Sets.{insert_product_n, product_conflicts_n}
use Rattle.sets.proofs.Rising.{Rising, Consistent, product_rises}
use Rattle.term.specs.Term.{Term, terms}
use Rattle.term.specs.Size.{sizes_checked}
use Rattle.term.specs.Memory.{pack, row_of, TermRow, TermTable}
use Rattle.term.proofs.Packing.{Numbers, of_terms, numbers_are, canonical}
use Rattle.term.proofs.Packing.{product_numbers, conflicts_numbers, owing_numbers, terms_numbers}
use Rattle.term.proofs.Rising.{terms_rise, product_one, product_one_apart}
use Rattle.term.proofs.Rows.{row_is, row_fits}
use Rattle.generalized.specs.Limits.{max_product}
use Rattle.generalized.specs.Generalized.{times, partial_product, partial_conflicts, product_check}
use Rattle.generalized.specs.Memory.{Factor, ProductRoom, Multiplied, Product}
use Rattle.generalized.proofs.Passed.{few, in_range}

-- ts are terms whose must and must_not are bytes
abbrev pub Packed : List Term → Type 0
Packed ts = Numbers of_terms ts (map pack ts)

times_packed : (b : Bool) {ts us : List Term} → Packed ts → Packed us → Packed (times b ts us)
times_packed true p t = canonical of_terms (product_numbers of_terms p t)
times_packed false p t = p

pub partial_packed : (rule : List ℕ) (state n : ℕ) → ((k : ℕ) → k < n → InRange (tree rule k))
    → Packed (partial_product rule state n)
unfolding partial_product
partial_packed rule state zero ranges = owing_numbers (0 ∷ [])
partial_packed rule state (suc n) ranges =
    times_packed (has state n) (partial_packed rule state n (λ k lt. ranges k (omega arith)))
    (terms_numbers (tree rule n) (ranges n (omega arith)))

-- their numbers rise
times_rises : (b : Bool) {ts us : List Term} → Packed ts → Packed us → Rising Consistent 0 (map pack ts)
    → Rising Consistent 0 (map pack us) → Rising Consistent 0 (map pack (times b ts us))
times_rises true p t rise own =
    rw (← (numbers_are of_terms (product_numbers of_terms p t)))
    (product_rises Consistent (λ x y c d e. e) 0 0 _ _ _ rise own tt)
times_rises false p t rise own = rise

pub partial_rises : (rule : List ℕ) (state n : ℕ) → ((k : ℕ) → k < n → InRange (tree rule k))
    → Rising Consistent 0 (map pack (partial_product rule state n))
unfolding partial_product
partial_rises rule state zero ranges = (omega arith, refl, tt)
partial_rises rule state (suc n) ranges =
    times_rises (has state n) (partial_packed rule state n (λ k lt. ranges k (omega arith)))
    (terms_numbers (tree rule n) (ranges n (omega arith)))
    (partial_rises rule state n (λ k lt. ranges k (omega arith)))
    (terms_rise (tree rule n) (ranges n (omega arith)))

-- a node's row can be multiplied with
pub factor_of : (rule table : List ℕ) (k : ℕ) → sizes_checked rule ≡ fine → TermTable rule table → k < node_count rule
    → Factor table k
factor_of rule table k passed is lt = record {
  inside = omega (arith, row_fits is k lt);
  few = omega (arith, (is.rows k lt).count, (few rule passed k lt).terms);
  alone = rw (row_is (is.rows k lt)) (product_one (tree rule k) (in_range rule passed k lt));
  apart = rw (row_is (is.rows k lt)) (product_one_apart (tree rule k) (in_range rule passed k lt));
}

-- 21 for the product over the obligations up to n
abbrev partial_check : List ℕ → (state place : ℕ) → ℕ → Check
partial_check rule state place n = require (leb (length (partial_product rule state (suc n))) max_product) 21 place

-- a loop over the nodes that stands at k: the first count of items are the product over the obligations below k, with
-- these conflicts, and none before was over
pub record Multiplying (rule : List ℕ) (state : ℕ) (items next : List ℕ) (count dropped k : ℕ) : Type 0 where
  pub small : node_count rule ≤ max_nodes
  pub within : k ≤ node_count rule
  pub room : ProductRoom items next
  pub fits : count ≤ max_product
  pub are : take count items ≡ map pack (partial_product rule state k)
  pub conflicts : dropped ≡ partial_conflicts rule state k
  pub passed : (place : ℕ) → Passing (partial_check rule state place) (node_count rule) k

pub multiply_begins : {rule : List ℕ} {state : ℕ} (items next : List ℕ) → node_count rule ≤ max_nodes
    → ProductRoom items next → Multiplying rule state (set items 0 0) next 1 0 0
unfolding partial_product partial_conflicts
multiply_begins {rule} items next le room = record {
  small = le;
  within = omega arith;
  room = record { room = length-set items 0 0 ∙ room.room; beside = room.beside };
  fits = omega arith;
  are = take-suc-set items 0 0 (omega (arith, room.room));
  conflicts = refl;
  passed = λ place. pass_begins _ (node_count rule);
}

module _ {rule : List ℕ} {state : ℕ} {items next : List ℕ} {count dropped k : ℕ}
    (inv : Multiplying rule state items next count dropped k) where
  abbrev n : ℕ
  n = node_count rule

  pub multiply_ends : n ≤ k → Product rule state items (record { count = count; conflicts = dropped })
  unfolding product_check
  multiply_ends ge =
      let same : k ≡ node_count rule = omega (arith, inv.within) in
      record {
        few = inv.fits;
        checked = λ place. sym (pass_ends (partial_check rule state place) n k ge (inv.passed place));
        terms = rw (← same) inv.are;
        conflicts = rw (← same) inv.conflicts;
      }

  module _ (lt : k < n) where
    -- the product over the obligations up to k
    abbrev further : List Term
    further = partial_product rule state (suc k)

    passed_on : length further ≤ max_product → (place : ℕ) → Passing (partial_check rule state place) n (k + 1)
    passed_on le place = pass_steps _ n k lt (inv.passed place) (rw (le-leb (length further) max_product le))

    -- a node that is no obligation changes nothing
    pub multiply_skips : has state k ≡ false → Multiplying rule state items next count dropped (k + 1)
    unfolding partial_product partial_conflicts
    multiply_skips e =
        let same : further ≡ partial_product rule state k = rw e in
        let size = length-take-le count items (omega (arith, inv.room.room, inv.fits)) in
        let packed = length-map (partial_product rule state k) pack in
        record {
          small = inv.small;
          within = omega arith;
          room = inv.room;
          fits = inv.fits;
          are = rw (add-one, same) inv.are;
          conflicts = rw (add-one, e, or_zero_r) inv.conflicts;
          passed = passed_on (omega (arith, inv.fits, size, packed, ap length same, ap length inv.are));
        }

    module _ (ranges : (j : ℕ) → j < n → InRange (tree rule j)) {table : List ℕ} (row : TermRow rule table k)
        (own : has state k ≡ true) where
      before : Packed (partial_product rule state k)
      before = partial_packed rule state k (λ j l. ranges j (omega arith))

      factor : Packed (terms (tree rule k))
      factor = terms_numbers (tree rule k) (ranges k lt)

      -- what the turn works out, and its conflicts
      abbrev joins : List ℕ
      joins = insert_product_n (take count items) (row_of table k) []

      abbrev apart : ℕ
      apart = product_conflicts_n (take count items) (row_of table k)

      joins_are : joins ≡ map pack further
      unfolding partial_product
      joins_are =
          rw (own, ← numbers_are of_terms (product_numbers of_terms before factor), ← inv.are, ← row_is row)

      conflicts_are : bit_or dropped apart ≡ partial_conflicts rule state (suc k)
      unfolding partial_conflicts
      conflicts_are = rw (own, ← conflicts_numbers before factor, ← inv.are, ← row_is row, inv.conflicts)

      joins_count : length joins ≡ length further
      joins_count = rw joins_are (length-map further pack)

      pub multiply_steps : {after : List ℕ} {r : Joined} → Multiplied after r joins apart
          → length after ≡ length items → {beside : List ℕ} → length beside ≡ length next
          → Multiplying rule state after beside r.count (bit_or dropped r.conflicts) (k + 1)
      multiply_steps turn size same = record {
        small = inv.small;
        within = omega arith;
        room = record { room = size ∙ inv.room.room; beside = same ∙ inv.room.beside };
        fits = turn.few;
        are = rw add-one (turn.are ∙ joins_are);
        conflicts = rw (add-one, turn.conflicts) conflicts_are;
        passed = passed_on (omega (arith, turn.count, turn.few, joins_count));
      }

      pub multiply_over : max_product < length joins → (place : ℕ) → product_check rule place state ≡ refused 21 place
      unfolding product_check
      multiply_over over place =
          sym (pass_fails (partial_check rule state place) n k lt (inv.passed place)
          (rw (lt-leb (length further) max_product (omega (arith, joins_count)))))
