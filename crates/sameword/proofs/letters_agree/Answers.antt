-- `sameword::letters_agree` meets its contract: both lassos are followed, and the letters so far agree (`Following`).
-- Assumes nothing.
use Rattle.sameword.proofs.Agreement.{follow_begins, follow_steps}
use Rattle.std.proofs.Common.{◌∙◌, sym}
use Rattle.sameword.proofs.letters_agree.Goals as goal

pub loop-init : goal.loop-init
loop-init c = follow_begins _ _ _ _ c.requires.0 c.requires.1

pub loop-preserved : goal.loop-preserved
loop-preserved c =
    follow_steps _ _ _ _ c.requires.0 c.requires.1 c.loop.invariant
    (sym c.letter_at.ensures ∙ c.if-letter_at.false ∙ c.letter_at-in-loop.ensures)
    c.position_after-at.ensures c.position_after-other_at.ensures
