-- `rest::visit` meets its contract: a byte that is 1 changes nothing; else it is set, the state is listed, and there is
-- room (`Marking`). Assumes nothing.
use native.Mathlib.Omega.{arith}
use Rattle.rest.proofs.Marking.{shows_room}
use Rattle.rest.proofs.Filling.{fills_met, fills_new}
use Rattle.rest.proofs.visit.Goals as goal

pub bounds-level-level : goal.bounds-level-level
bounds-level-level c =
    let (n, state, ready) = c.requires in
    omega (arith, shows_room ready.shows _ state c.if-work-at-ne1.true, ready.shows.small)

pub overflow_add-level : goal.overflow_add-level
overflow_add-level c =
    let (n, state, ready) = c.requires in
    omega (arith, ready.shows.small, shows_room ready.shows _ state c.if-work-at-ne1.true)

pub returns-then-work-at-ne1 : goal.returns-then-work-at-ne1
returns-then-work-at-ne1 c = λ n state. fills_new state c.if-work-at-ne1.true

pub returns-else-work-at-ne1 : goal.returns-else-work-at-ne1
returns-else-work-at-ne1 c = λ n state. fills_met state c.if-work-at-ne1.false
