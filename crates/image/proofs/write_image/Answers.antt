-- `image::write_image` meets its contract: three entries, which are the contents, and behind them three copies.
-- Assumes nothing.
use native.Mathlib.Omega.{arith}
use Rattle.image.proofs.Stores.{contents_stored, image_stored}
use Rattle.image.proofs.write_image.Goals as goal

pub returns : goal.returns
returns c =
    let contents = contents_stored c.args.counts c.args.image.now
    c.write_entry.ensures (rw c.transitions_at-transitions_begin.ensures at c.write_entry-2.ensures)
    (rw c.initial_at-initial_begin.ensures at c.write_entry-3.ensures) in
    rw c.image_length.ensures
    (image_stored c.args.counts c.args.states.now c.args.transitions.now c.args.initial.now c.args.image.now
    (omega (arith, c.requires)) (omega (arith, c.requires)) (omega (arith, c.requires)) (omega (arith, c.requires))
    contents c.put.ensures (rw c.transitions_at-transitions_begin.ensures at c.put-2.ensures)
    (rw c.initial_at-initial_begin.ensures at c.put-3.ensures))
