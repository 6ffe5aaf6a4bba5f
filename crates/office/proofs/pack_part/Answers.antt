-- `office::pack_part` meets its contract: the two cases of the test. Assumes nothing.
use mathlib.Core.Path.{refl}
use native.Mathlib.Omega.{arith}
use borrow.Author.Tests.{lt-ltb, le-ltb}
use Rattle.office.proofs.pack_part.Goals as goal

pub returns-then-from-stem : goal.returns-then-from-stem
returns-then-from-stem c = rw (lt-ltb c.args.from c.args.stem (omega arith)) refl

pub returns : goal.returns
returns c = rw (le-ltb c.args.from c.args.stem (omega arith)) refl
