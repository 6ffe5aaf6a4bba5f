-- `rest::follow` meets its contract: the target is met if the record reads the letter, and nothing else (`Filling`).
-- Assumes nothing.
use native.Mathlib.Omega.{arith}
use mathlib.Core.Path.{sym, ◌∙◌}
use Rattle.image.specs.Lookup.{record_at}
use Rattle.rest.proofs.Filling.{follow_skips, follow_meets}
use Rattle.rest.proofs.follow.Goals as goal

pub returns-then-reads_letter : goal.returns-then-reads_letter
returns-then-reads_letter c =
    λ n below. follow_meets c.args.letter (record_at c.args.image.now c.args.at)
    (sym c.reads_letter.ensures ∙ c.if-reads_letter.true)
    (rw c.number_at.ensures at (c.visit.ensures n (omega (arith, c.number_at.ensures))))

pub returns-else-reads_letter : goal.returns-else-reads_letter
returns-else-reads_letter c =
    λ n below. follow_skips c.args.letter (record_at c.args.image.now c.args.at)
    (sym c.reads_letter.ensures ∙ c.if-reads_letter.false)
