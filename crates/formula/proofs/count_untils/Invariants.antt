-- `formula::count_untils` meets its contract: the count is that of the nodes passed.
-- Assumes nothing.
use mathlib.Core.Path.{◌≡◌}
use lib.ListN.{length}
use Rattle.formula.specs.Rule.{untils}
use Rattle.formula.proofs.count_untils.Given as goal

abbrev pub invariant-loop-i : goal.invariant-loop-i
invariant-loop-i l = l.count ≡ length (untils l.rule l.i)
