-- `term::tabulate` meets its contract: the descent from the root keeps the rows of all nodes, then 20 is looked for.
-- Assumes nothing.
use mathlib.Core.Path.{sym}
use Prim.Native.Nat.{ℕ, ◌<◌}
use borrow.Author.Rules.{rules}
use Rattle.answer.proofs.Lowest.{passes_fine}
use Rattle.formula.specs.Rule.{node_count}
use Rattle.term.specs.Memory.{Kept}
use Rattle.term.proofs.Sizes.{some_node, root_inside}
use Rattle.term.proofs.Reached.{reached_whole}
use Rattle.term.proofs.Keeping.{table_fine}
use Rattle.term.proofs.Descending.{root_conflicts}
use Rattle.term.proofs.tabulate.Goals as goal
use Rattle.term.proofs.tabulate.Goals.{After-keep_terms-root}

-- the rows of all nodes are kept
kept : (c : After-keep_terms-root) → (k : ℕ) → k < node_count c.args.rule.now.bytes.now
    → Kept c.args.rule.now.bytes.now c.keep_terms-root.new.table k
kept c k lt =
    let rule = c.args.rule.now in
    c.keep_terms-root.ensures.reached k
    (rw c.count.ensures (reached_whole rule.bytes.now (passes_fine _ rule.accepted) k lt))

pub overflow_sub-count : goal.overflow_sub-count
overflow_sub-count c = rw c.count.ensures (some_node _ c.args.rule.now.accepted)

pub keep_terms-root-requires : goal.keep_terms-root-requires
keep_terms-root-requires c = (rw c.count.ensures (root_inside _ c.args.rule.now.accepted), search rules)

pub check_sizes-requires : goal.check_sizes-requires
check_sizes-requires c = (search rules, kept (goal.at.check_sizes-requires c).After-keep_terms-root)

pub returns : goal.returns
returns c =
    let passed = sym c.in_ok-check_sizes.ensures in
    record {
      sizes = passed;
      terms = table_fine _ _ (search rules) (kept (goal.at.returns c).After-keep_terms-root) passed;
      conflicts = root_conflicts _ (passes_fine _ c.args.rule.now.accepted) passed
          (rw c.count.ensures at c.keep_terms-root.ensures.conflicts);
    }
