-- `field::advance` meets its contract: a skipped letter changes nothing, any other leaves what it leads to. Assumes
-- nothing.
use native.Mathlib.Omega.{arith}
use mathlib.Core.Path.{◌∙◌}
use Rattle.image.specs.Lookup.{image_automaton}
use Rattle.field.proofs.Calling.{skips, moves}
use Rattle.field.proofs.advance.Goals as goal
use Rattle.field.proofs.advance.Goals.{then-letter-lt-SKIPPED, else-letter-lt-SKIPPED}

pub returns : goal.returns
returns c =
    let a = image_automaton c.args.image.now.bytes.now in
    elim c.if-letter-lt-SKIPPED.branch [
      | then-letter-lt-SKIPPED w ↦
          moves a c.args.set.now c.args.letter _ _ c.is_empty.ensures w.moved_set.result (omega arith)
          w.moved_set.ensures (w.set-is ∙ w.store.ensures)
      | else-letter-lt-SKIPPED w ↦
          skips a c.args.set.now c.args.letter _ _ c.is_empty.ensures (omega arith) w.set-is
    ]
