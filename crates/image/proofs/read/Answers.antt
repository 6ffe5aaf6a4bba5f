-- `image::read` meets its contract: the tests in their order; on acceptance the bodies, which are the automaton's
-- records. Assumes nothing.
use Rattle.std.proofs.Common.{rules, ◌≡◌, sym, ◌∙◌, Err}
use Rattle.answer.proofs.Results.{require_fine}
use Rattle.automaton.specs.Tables.{TablesRoom}
use Rattle.automaton.proofs.Room.{room_fits}
use Rattle.image.proofs.Outcomes.{read_refused, read_accepted}
use Rattle.image.proofs.Contents.{checks_sized}
use Rattle.image.proofs.read.Goals as goal
use Rattle.image.proofs.read.Goals.{In_ok-require}

tables : (c : In_ok-require) → TablesRoom c.args.states.now c.args.transitions.now c.args.initial.now
tables c = room_fits _ _ _ (sym c.tables_fit-room.ensures ∙ require_fine _ 25 0 (sym c.in_ok-require.ensures))

pub returns-in_err-image : goal.returns-in_err-image
returns-in_err-image c =
    let same : c.from_residual-in_err-image.result ≡ Err c.in_err-image.field-0.0 = search rules in
    let room = tables (goal.at.returns-in_err-image c).In_ok-require in
    rw same (read_refused _ _ _ _ room c.in_err-image.ensures.checked)

pub load_bodies-requires : goal.load_bodies-requires
load_bodies-requires c =
    let sized = checks_sized c.args.image.now _ c.in_ok-image.ensures.checked in
    (rw (← c.in_ok-image.ensures.bytes) at sized, tables (goal.at.load_bodies-requires c).In_ok-require)

pub returns : goal.returns
returns c =
    read_accepted _ _ _ _ (tables (goal.at.returns c).In_ok-require) (λ i. (c.type_inv.image i).fits)
    c.in_ok-image.ensures.checked (rw c.in_ok-image.ensures.bytes at c.load_bodies.ensures)
