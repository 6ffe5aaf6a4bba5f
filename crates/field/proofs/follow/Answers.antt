-- `field::follow` meets its contract: the target joins if the record reads the letter. Assumes nothing.
use mathlib.Core.Path.{sym, ◌∙◌, ap}
use lib.Dec.{eqb}
use Rattle.field.proofs.Adding.{added_as, added_unless, added_if}
use Rattle.field.proofs.follow.Goals as goal

pub returns-then-reads_letter : goal.returns-then-reads_letter
returns-then-reads_letter c =
    added_if _ _ _ (sym c.reads_letter.ensures ∙ c.if-reads_letter.true)
    (added_as (λ q. ap (eqb q) c.number_at.ensures) c.add_state.ensures)

pub returns-else-reads_letter : goal.returns-else-reads_letter
returns-else-reads_letter c = added_unless _ _ (sym c.reads_letter.ensures ∙ c.if-reads_letter.false)
