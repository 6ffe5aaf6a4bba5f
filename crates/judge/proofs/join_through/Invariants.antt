-- `judge::join_through` meets its contract: the rows before q are joined (`Gathers`) with the row by which runs go
-- through m. Assumes nothing.
use mathlib.Core.Path.{◌≡◌}
use Rattle.judge.specs.Memory.{Via}
use Rattle.judge.proofs.Gathers.{Gathering}
use Rattle.judge.proofs.join_through.Given as goal

abbrev pub invariant-loop-q : goal.invariant-loop-q
invariant-loop-q l = Gathering l.initial.rows (λ p r k. (r ≡ p) × Via l.initial.rows l.via l.m p k) l.n l.rows l.q
