-- The places at which a node is a child: how many there can be, and what a loop over the nodes counts. Assumes nothing.
use mathlib.Core.Path.{◌≡◌, refl, ◌∙◌}
use mathlib.Core.Bool.{Bool, true, false, cond}
use mathlib.Core.List.{List}
use Prim.Native.Nat.{ℕ, zero, suc, ◌+◌, ◌*◌, ◌≤◌, ◌<◌}
use native.Mathlib.Numerals.{add-one}
use native.Mathlib.Omega.{arith}
use lib.Dec.{eqb}
use lib.ListN.{get_or, length, replicate}
use borrow.Author.Tests.{ltb-true, lt-ltb}
use Rattle.answer.proofs.Zeros.{zeros_at}
use Rattle.formula.specs.declared.Operand.{Operand}
use Rattle.formula.specs.declared.Operand.TheVariants.{Unused, Proposition, Child}
use Rattle.formula.specs.Limits.{max_nodes}
use Rattle.formula.specs.Rule.{kind_at, left_at, right_at, left_operand, right_operand, child_fits, ChildrenBelow}
use Rattle.formula.specs.Rule.{is_child, places}

-- a byte is a child at one place at most
is_child_most : (operand : Operand) (byte k : ℕ) → is_child operand byte k ≤ 1
is_child_most Unused byte k = omega arith
is_child_most Proposition byte k = omega arith
is_child_most Child byte k = go (eqb byte k)
  where
    go : (t : Bool) → cond t 1 0 ≤ 1
    go true = omega arith
    go false = omega arith

-- n nodes have two bytes each
places_most : (rule : List ℕ) (n k : ℕ) → places rule n k ≤ n * 2
unfolding places
places_most rule zero k = omega arith
places_most rule (suc n) k =
    omega (
      arith,
      places_most rule n k,
      is_child_most (left_operand (kind_at rule n)) (left_at rule n) k,
      is_child_most
          (right_operand (kind_at rule n)) (right_at rule n) k,
    )

-- a child below a node is below all that is above the node
child_widens : (operand : Operand) (byte parent most : ℕ) → parent ≤ most → child_fits operand byte parent ≡ true
    → child_fits operand byte most ≡ true
child_widens Unused byte parent most le e = refl
child_widens Proposition byte parent most le e = refl
child_widens Child byte parent most le e = lt-ltb byte most (omega (arith, ltb-true byte parent e))

-- a byte that is a child
module _ (operand : Operand) (child : operand ≡ Child) (byte : ℕ) where
  pub child_below : (most : ℕ) → child_fits operand byte most ≡ true → byte < most
  child_below most e = ltb-true byte most (rw child at e)

-- a loop over the nodes that stands at i: counts has the places of the first i nodes
pub record Counting (rule counts : List ℕ) (i : ℕ) : Type 0 where
  pub size : length counts ≡ max_nodes
  pub counted : (k : ℕ) → get_or counts k 0 ≡ places rule i k

pub count_begins : (rule : List ℕ) → Counting rule (replicate max_nodes 0) 0
unfolding places
count_begins rule = record { size = refl; counted = zeros_at max_nodes }

-- one turn of that loop, with what the code reads of node i
module _ (rule : List ℕ) (n : ℕ) (few : n ≤ max_nodes) (below : ChildrenBelow rule n) (i : ℕ) (lt : i < n)
    {counts : List ℕ} (inv : Counting rule counts i) {kind : ℕ} (ek : kind ≡ kind_at rule i) where
  -- what `count_child` requires of the left byte: it fits the counts, and no count overflows
  module _ {left : Operand} (eo : left ≡ left_operand kind) {l : ℕ} (el : l ≡ left_at rule i) where
    pub left_fits : (child_fits left l (length counts) ≡ true) × ((k : ℕ) → get_or counts k 0 < 255)
    left_fits = (
      rw (inv.size, eo, el, ek) (child_widens (left_operand (kind_at rule i)) (left_at rule i) i max_nodes
          (omega arith) (below.lefts i lt)),
      λ k. omega (arith, inv.counted k, places_most rule i k),
    )

    -- and then of the right byte
    module _ (more : List ℕ) (same : length more ≡ length counts)
        (step : (k : ℕ) → get_or more k 0 ≡ get_or counts k 0 + is_child left l k) {right : Operand}
        (eq : right ≡ right_operand kind) {r : ℕ} (er : r ≡ right_at rule i) where
      pub right_fits : (child_fits right r (length more) ≡ true) × ((k : ℕ) → get_or more k 0 < 255)
      right_fits = (
        rw (same, inv.size, eq, er, ek)
            (child_widens (right_operand (kind_at rule i)) (right_at rule i) i max_nodes (omega arith)
            (below.rights i lt)),
        λ k. omega (arith, step k, inv.counted k, places_most rule i k, is_child_most left l k),
      )

      pub count_steps : (last : List ℕ) → length last ≡ length more
          → ((k : ℕ) → get_or last k 0 ≡ get_or more k 0 + is_child right r k) → Counting rule last (i + 1)
      unfolding places
      count_steps last again more-step = record {
        size = again ∙ same ∙ inv.size;
        counted = λ k. more-step k ∙ rw (step k, inv.counted k, eo, el, eq, er, ek, add-one i);
      }
