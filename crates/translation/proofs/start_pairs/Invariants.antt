-- `translation::start_pairs` meets its contract: the first i codes are numbered (`starts`).
-- Assumes nothing.
use mathlib.Core.Path.{◌≡◌}
use Rattle.translation.proofs.Codes.{starts}
use Rattle.translation.proofs.start_pairs.Given as goal

abbrev pub invariant-loop-i : goal.invariant-loop-i
invariant-loop-i l = l.pairs ≡ starts l.i
