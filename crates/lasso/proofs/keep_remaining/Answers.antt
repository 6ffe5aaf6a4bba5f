-- `lasso::keep_remaining` meets its contract: of the letters before an index those that remain are kept (`Keeping`).
-- Assumes nothing.
use Rattle.std.proofs.Common.{arith, rules}
use Rattle.lasso.proofs.Skipping.{keep_begins, keep_steps, keep_ends}
use Rattle.lasso.proofs.keep_remaining.Goals as goal

pub loop-letter-init : goal.loop-letter-init
loop-letter-init c = keep_begins _ _

pub loop-letter-preserved : goal.loop-letter-preserved
loop-letter-preserved c =
    keep_steps _ _ _ c.loop-letter.n c.loop-letter.letter-index (omega arith) (omega arith) c.loop-letter.invariant
    (search rules)

pub shape_of-kept : goal.shape_of-kept
shape_of-kept c = c.loop-letter.invariant.size

pub returns : goal.returns
returns c =
    keep_ends _ _ _ c.loop-letter.n c.loop-letter.letter-index (omega arith) (omega arith) c.loop-letter.invariant
