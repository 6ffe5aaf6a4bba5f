-- `lasso::keep_remaining` meets its contract: of the letters before an index those that remain are kept (`Keeping`).
-- Assumes nothing.
use Rattle.lasso.proofs.Skipping.{Keeping}
use Rattle.lasso.proofs.keep_remaining.Given as goal

abbrev pub invariant-loop-letter : goal.invariant-loop-letter
invariant-loop-letter l = Keeping l.initial.kept l.letters l.kept l.n l.letter-index
