-- `judge::runs_to` meets its contract: the row by itself, and its lower half lifted if the bit is set.
-- Assumes nothing.
use Rattle.judge.proofs.Gathers.{adds_lifted}
use Rattle.judge.proofs.Closure.{through_round}
use Rattle.judge.proofs.runs_to.Goals as goal

pub returns-then-has_bit : goal.returns-then-has_bit
returns-then-has_bit c =
    through_round _ c.row_of-row.ensures (adds_lifted c.row_of-row.ensures c.join_lifted.ensures)
    (c.has_bit.ensures.yes c.if-has_bit.true)
