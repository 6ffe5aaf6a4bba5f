-- `image::write` meets its contract: the tests in their order, and on acceptance the used bytes of the tables, which
-- are the automaton's records. Assumes nothing.
use mathlib.Core.Path.{sym, ◌∙◌}
use borrow.Author.Tests.{leb-true}
use Rattle.answer.proofs.Results.{require_fine}
use Rattle.automaton.proofs.Room.{room_fits}
use Rattle.image.proofs.Tests.{counts_small}
use Rattle.image.proofs.Outcomes.{Ready, has_records, write_accepted}
use Rattle.image.proofs.write.Goals as goal
use Rattle.image.proofs.write.Goals.{In_ok-require-3}

ready : (c : In_ok-require-3)
    → Ready c.args.counts c.args.states.now c.args.transitions.now c.args.initial.now c.args.image.now
ready c = record {
  small = counts_small _ (sym c.counts_fit.ensures ∙ require_fine _ 10 0 (sym c.in_ok-require-3.ensures));
  tables =
      room_fits _ _ _ (sym c.tables_fit-room.ensures ∙ require_fine _ 25 0 (sym c.in_ok-require.ensures));
  room = leb-true _ _ (require_fine _ 25 0 (sym c.in_ok-require-2.ensures));
}

pub check_records-requires : goal.check_records-requires
check_records-requires c = has_records (ready (goal.at.check_records-requires c).In_ok-require-3)

pub write_image-requires : goal.write_image-requires
write_image-requires c =
    let given = ready (goal.at.write_image-requires c).In_ok-require-3 in
    (given.small, given.tables, given.room)

pub returns : goal.returns
returns c =
    write_accepted (ready (goal.at.returns c).In_ok-require-3) (λ i. (c.type_inv.states i).fits)
    (λ i. (c.type_inv.transitions i).fits) (λ i. (c.type_inv.initial i).fits)
    c.in_ok-check_records.ensures c.write_image.ensures
