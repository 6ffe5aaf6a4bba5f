-- `term::root_cover` meets its contract: a rule that passes has no node whose cover is handed on as too large.
-- Assumes nothing.
use Rattle.term.proofs.Sizes.{some_node, root_inside}
use Rattle.term.proofs.Descending.{root_found}
use Rattle.term.proofs.root_cover.Goals as goal

pub overflow_sub-count : goal.overflow_sub-count
overflow_sub-count c = rw c.count.ensures (some_node _ c.args.rule.now.accepted)

pub cover_of-requires : goal.cover_of-requires
cover_of-requires c = rw c.count.ensures (root_inside _ c.args.rule.now.accepted)

pub returns : goal.returns
returns c = root_found _ c.requires (rw c.count.ensures at c.cover_of.ensures)
