-- `generalized::start` meets its contract: the first i sets of the cover are in (`Covering`).
-- Assumes nothing.
use native.Mathlib.Omega.{arith}
use mathlib.Core.Path.{◌≡◌}
use lib.ListN.{length}
use lib.Seq.{length-take-le}
use Rattle.term.specs.Limits.{max_terms}
use Rattle.generalized.proofs.Passed.{initial_few}
use Rattle.generalized.proofs.Covering.{cover_few, cover_begins, cover_steps, cover_ends}
use borrow.Author.Rules.{rules}
use Rattle.generalized.proofs.start.Goals as goal

pub as_slice-set-items-requires : goal.as_slice-set-items-requires
as_slice-set-items-requires c =
    cover_few _ c.root_cover-cover.result c.root_cover-cover.ensures (initial_few _ c.requires.0)

pub loop-i-init : goal.loop-i-init
loop-i-init c =
    rw c.as_slice-set-items.ensures
    (cover_begins c.root_cover-cover.result c.root_cover-cover.ensures (initial_few _ c.requires.0) c.requires.1)

pub loop-i-preserved : goal.loop-i-preserved
loop-i-preserved c = cover_steps c.loop-i.invariant c.loop-i-test.true

pub returns : goal.returns
returns c =
    let few = cover_few _ c.root_cover-cover.result c.root_cover-cover.ensures (initial_few _ c.requires.0) in
    let full : length c.root_cover-cover.result.items ≡ max_terms = search rules in
    let size : length c.as_slice-set-items.result.now ≡ c.root_cover-cover.result.count =
    rw c.as_slice-set-items.ensures (length-take-le _ _ (omega arith)) in
    (rw size at (cover_ends c.loop-i.invariant (omega arith)), few)
