-- `term::check_sizes` meets its contract: the nodes before i are fine and their bounds are there (`Checking`), and the
-- first refusal is the lowest. Assumes nothing.
use Prim.Native.Nat.{ℕ, ◌≤◌}
use mathlib.Core.Path.{◌≡◌}
use mathlib.Core.List.{List}
use lib.ListN.{length}
use Rattle.answer.proofs.Lowest.{Passing}
use Rattle.formula.specs.Rule.{node_count}
use Rattle.formula.specs.Limits.{max_nodes}
use Rattle.term.specs.Size.{size_check}
use Rattle.term.specs.Memory.{BoundedBelow}
use Rattle.term.proofs.check_sizes.Given as goal

-- a loop over n nodes that stands at i
pub record Checking (rule : List ℕ) (n : ℕ) (bounds : List ℕ) (i : ℕ) : Type 0 where
  pub small : n ≤ max_nodes
  pub size : length bounds ≡ max_nodes
  pub passing : Passing (size_check rule) n i
  pub bounded : BoundedBelow rule i bounds

abbrev pub invariant-loop-i : goal.invariant-loop-i
invariant-loop-i l = Checking l.rule.bytes.now (node_count l.rule.bytes.now) l.bounds l.i
