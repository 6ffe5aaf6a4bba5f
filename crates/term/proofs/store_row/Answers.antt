-- `term::store_row` meets its contract: the count goes in first, then the terms by one copy into the part behind it.
-- Assumes nothing.
use native.Mathlib.Omega.{arith}
use native.Mathlib.Numerals.{add-one}
use mathlib.Core.Path.{◌≡◌}
use lib.ListN.{length}
use lib.Seq.{length-take-le}
use Rattle.term.specs.Limits.{max_terms}
use Rattle.term.proofs.Keeping.{store_copied}
use borrow.Author.Rules.{rules}
use Rattle.term.proofs.store_row.Goals as goal

pub returns-then-ts-le-MAX_TERMS : goal.returns-then-ts-le-MAX_TERMS
returns-then-ts-le-MAX_TERMS c =
    let full : length c.args.ts.items ≡ max_terms = search rules in
    store_copied _ _ c.args.ts (omega arith) (omega arith) full _ (add-one _)
    (rw (c.as_slice.ensures, length-take-le c.args.ts.count c.args.ts.items (omega arith)) at c.copy.ensures)
