-- `term::release` meets its contract: own and the terms of the left side fit 65 places, and the product starts empty.
-- Assumes nothing.
use native.Mathlib.Omega.{arith}
use mathlib.Core.Path.{sym}
use lib.ListN.{replicate}
use lib.Seq.{length-take-le}
use Rattle.sets.proofs.Stores.{empty, single}
use Rattle.term.proofs.Carries.{carries_of, carried, more_fits, more_is}
use borrow.Author.Rules.{rules}
use Rattle.term.proofs.release.Goals as goal
use Rattle.term.proofs.release.Goals.{After-as_slice-2}

pub slice_bounds-more-end : goal.slice_bounds-more-end
slice_bounds-more-end c =
    let a = c.args.a in
    let more =
    rw c.as_slice.ensures at (c.union-count.ensures.updates _ (single c.args.own (replicate 64 c.args.own))) in
    more_fits c.union-count.new.items a.items c.union-count.result a.count c.args.own more (omega arith) (search rules)

pub slice_bounds-product-end-2 : goal.slice_bounds-product-end-2
slice_bounds-product-end-2 c =
    sym (length-take-le _ _ (slice_bounds-more-end (goal.at.slice_bounds-product-end-2 c).After-as_slice-2))

pub returns : goal.returns
returns c us vs ia ib =
    let a = c.args.a in
    let more =
    rw c.as_slice.ensures at (c.union-count.ensures.updates _ (single c.args.own (replicate 64 c.args.own))) in
    let joined = rw c.as_slice-2.ensures at c.product-joined.ensures in
    rw (
      ← carried ia (omega arith),
      ← carried ib (omega arith),
      ← more_is c.union-count.new.items a.items c.union-count.result a.count c.args.own more (omega arith)
          (search rules),
    )
    (record { packed = carries_of (search rules) (joined.updates _ (empty _)); conflicts = rw joined.conflicts })
