-- `acceptance::untils_of` meets its contract: the untils among the nodes passed are gathered (`Gathering`).
-- Assumes nothing.
use Rattle.acceptance.proofs.Gathering.{Gathering}
use Rattle.acceptance.proofs.untils_of.Given as goal

abbrev pub invariant-loop-i : goal.invariant-loop-i
invariant-loop-i l = Gathering l.rule.bytes.now l.nodes l.count l.i
