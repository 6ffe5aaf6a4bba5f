-- `translation::meet_row` meets its contract: the targets from i on, met now, come to what all come to, and the records
-- before i are written (`Meeting`). Assumes nothing.
use mathlib.Core.List.{map}
use Rattle.generalized.specs.Explore.{meet_all}
use Rattle.translation.specs.Memory.{code_numbering, target_n}
use Rattle.translation.proofs.Meeting.{Meeting}
use Rattle.translation.proofs.meet_row.Given as goal

abbrev pub invariant-loop-i : goal.invariant-loop-i
invariant-loop-i l =
    Meeting l.row l.last l.level l.walked.0
    (λ count. meet_all code_numbering l.walked.0 (map (target_n l.last l.level) l.row) count l.initial.pairs)
    l.initial.table l.written l.pairs l.table l.i
