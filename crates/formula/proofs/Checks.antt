-- What the checks of a node come to by its tests, and what they say of a node that they let pass. Assumes nothing.
use mathlib.Core.Path.{◌≡◌}
use mathlib.Core.Bool.{true, not, and-false, and-eq-true_iff}
use mathlib.Core.List.{List}
use Prim.Native.Nat.{ℕ, ◌≤◌, ◌<◌}
use native.Mathlib.Omega.{arith}
use lib.Dec.{eqb, leb, ltb}
use borrow.Author.Tests.{lt-ltb, le-ltb, le-leb, lt-leb, eq-eqb, ne_eqb, eqb-true, ltb-true}
use Rattle.answer.specs.Result.{fine, refused, lowest}
use Rattle.formula.specs.declared.Operand.{Operand}
use Rattle.formula.specs.declared.Operand.TheVariants.{Unused, Proposition, Child}
use Rattle.formula.specs.Limits.{max_nodes, propositions}
use Rattle.formula.specs.Rule.{kind_at, left_at, right_at, left_operand, right_operand, byte_fits, child_fits}
use Rattle.formula.specs.Rule.{left_byte_fits, right_byte_fits, left_child_fits, right_child_fits}
use Rattle.formula.specs.Rule.{node_count, root, node_check, ChildrenBelow, places, place_check}
use Rattle.answer.proofs.Lowest.{lowest_each}
use Rattle.answer.proofs.Results.{require_fine, required}

-- node k by the count of its places and its kind
module _ (rule : List ℕ) (k : ℕ) where
  abbrev count : ℕ
  count = places rule (node_count rule) k

  pub place_root : count ≡ 0 → k ≡ root rule → fine ≡ place_check rule k
  unfolding place_check
  place_root none last =
      rw (eq-eqb k (root rule) last, lt-leb 2 count (omega arith), and-false (ltb 3 (kind_at rule k)))

  pub place_none : count ≡ 0 → (k ≡ root rule → ⊥) → refused 6 k ≡ place_check rule k
  unfolding place_check
  place_none none inner = rw (ne_eqb k (root rule) inner, eq-eqb count 0 none)

  module _ (some : count ≡ 0 → ⊥) where
    pub place_once : count ≡ 1 → fine ≡ place_check rule k
    unfolding place_check
    place_once once =
        rw (
          ne_eqb count 0 some,
          and-false (not (eqb k (root rule))),
          lt-leb 2 count (omega arith),
          and-false
              (ltb 3 (kind_at rule k)),
        )

    pub place_leaf : kind_at rule k < 4 → fine ≡ place_check rule k
    unfolding place_check
    place_leaf leaf =
        rw (ne_eqb count 0 some, and-false (not (eqb k (root rule))), le-ltb 3 (kind_at rule k) (omega arith))

    pub place_twice : (count ≡ 1 → ⊥) → 4 ≤ kind_at rule k → refused 6 k ≡ place_check rule k
    unfolding place_check
    place_twice more inner =
        rw (
          ne_eqb count 0 some,
          and-false (not (eqb k (root rule))),
          lt-ltb 3 (kind_at rule k) (omega arith),
          le-leb 2
              count (omega arith),
        )

-- what a fine check says of node n
pub record Tested (rule : List ℕ) (n : ℕ) : Type 0 where
  pub left_fits : left_byte_fits rule n ≡ true
  pub right_fits : right_byte_fits rule n ≡ true
  pub left_below : left_child_fits rule n ≡ true
  pub right_below : right_child_fits rule n ≡ true

pub tested : (highest : ℕ) (rule : List ℕ) (n : ℕ) → node_check highest rule n ≡ fine → Tested rule n
unfolding node_check
tested highest rule n e =
    let k = required (leb (kind_at rule n) highest) 3 n _ e in
    let b = required _ 4 n _ k.1 in
    let bytes = (and-eq-true_iff _ _).0 b.0 in
    let children = (and-eq-true_iff _ _).0 (require_fine _ 5 n b.1) in
    record {
      left_fits = bytes.0;
      right_fits = bytes.1;
      left_below = children.0;
      right_below = children.1;
    }

-- a byte that 4 and 5 let pass is small
byte_small : (operand : Operand) (byte n : ℕ) → byte_fits operand byte ≡ true → child_fits operand byte n ≡ true
    → n < max_nodes → byte < max_nodes
byte_small Unused byte n fits below few = omega (arith, eqb-true byte 0 fits)
byte_small Proposition byte n fits below few = omega (arith, ltb-true byte propositions fits)
byte_small Child byte n fits below few = omega (arith, ltb-true byte n below)

module _ (highest : ℕ) (rule : List ℕ) (n : ℕ) (passed : node_check highest rule n ≡ fine) (few : n < max_nodes) where
  pub left_small : left_at rule n < max_nodes
  left_small =
      let node = tested highest rule n passed in
      byte_small (left_operand (kind_at rule n)) (left_at rule n) n node.left_fits node.left_below few

  pub right_small : right_at rule n < max_nodes
  right_small =
      let node = tested highest rule n passed in
      byte_small (right_operand (kind_at rule n)) (right_at rule n) n node.right_fits node.right_below few

-- and what fine checks say of the children of n nodes
pub children_below : (highest : ℕ) (rule : List ℕ) (n : ℕ) → lowest (node_check highest rule) n ≡ fine
    → ChildrenBelow rule n
children_below highest rule n all =
    let node : (i : ℕ) → i < n → Tested rule i =
    λ i lt. tested highest rule i (lowest_each (node_check highest rule) n all i lt) in
    record { lefts = λ i lt. (node i lt).left_below; rights = λ i lt. (node i lt).right_below }
