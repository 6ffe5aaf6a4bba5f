-- `judge::row_empty` meets its contract: the row's four words joined are 0 only if each is.
-- Assumes nothing.
use mathlib.Core.Path.{refl}
use borrow.Author.Tests.{eqb-true}
use Rattle.judge.proofs.RunBits.{row_none}
use Rattle.judge.proofs.row_empty.Goals as goal

pub returns : goal.returns
returns c e k h = row_none c.row_of-row.result (eqb-true _ 0 e) k (c.row_of-row.ensures.all 0 k (refl, h))
