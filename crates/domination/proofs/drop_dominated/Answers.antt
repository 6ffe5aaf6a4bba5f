-- `domination::drop_dominated` meets its contract: of the terms passed, those that are kept stand in front, and the
-- rest stands where it stood (`Sifting`). Assumes nothing.
use Rattle.std.proofs.Common.{arith, rules}
use mathlib.Core.Path.{sym, ◌∙◌}
use lib.Seq.{length-take-le}
use Rattle.domination.proofs.drop_dominated.Invariants.{begins, steps, ends}
use Rattle.domination.proofs.drop_dominated.Goals as goal

pub loop-i-init : goal.loop-i-init
loop-i-init c = begins _ _ c.requires

pub bounds-ts-i : goal.bounds-ts-i
bounds-ts-i c = omega (arith, c.loop-i.invariant.size, c.requires.inside)

pub bounds-bytes-i : goal.bounds-bytes-i
bounds-bytes-i c = omega (arith, c.loop-i.invariant.bytes_size, c.requires.bytes_inside)

pub slice_bounds-dominated-end : goal.slice_bounds-dominated-end
slice_bounds-dominated-end c =
    omega (arith, c.loop-i.invariant.few, c.loop-i.invariant.size, c.requires.inside)

pub slice_bounds-dominated-end-in-loop-i : goal.slice_bounds-dominated-end-in-loop-i
slice_bounds-dominated-end-in-loop-i c =
    sym (length-take-le _ _ (omega (arith, c.loop-i.invariant.few, c.loop-i.invariant.size, c.requires.inside)))

pub slice_bounds-dominated-end-in-loop-i-2 : goal.slice_bounds-dominated-end-in-loop-i-2
slice_bounds-dominated-end-in-loop-i-2 c =
    omega (arith, c.loop-i.invariant.few, c.loop-i.invariant.bytes_size, c.requires.bytes_inside)

pub slice_bounds-dominated-end-in-loop-i-3 : goal.slice_bounds-dominated-end-in-loop-i-3
slice_bounds-dominated-end-in-loop-i-3 c =
    sym (length-take-le _ _ (omega
    (arith, c.loop-i.invariant.few, c.loop-i.invariant.bytes_size, c.requires.bytes_inside)))

pub dominated-dropped-requires : goal.dominated-dropped-requires
dominated-dropped-requires c =
    length-take-le _ _ (omega (arith, c.loop-i.invariant.few, c.loop-i.invariant.bytes_size, c.requires.bytes_inside))
    ∙ sym (length-take-le _ _ (omega (arith, c.loop-i.invariant.few, c.loop-i.invariant.size, c.requires.inside)))

pub loop-i-preserved : goal.loop-i-preserved
loop-i-preserved c =
    steps _ _ c.requires c.loop-i.invariant (omega arith) c.dominated-dropped.result
    c.dominated-dropped.ensures (search rules)

pub returns : goal.returns
returns c = ends _ _ c.requires c.loop-i.invariant (omega arith)
