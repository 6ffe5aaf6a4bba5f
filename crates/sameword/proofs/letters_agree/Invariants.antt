-- `sameword::letters_agree` meets its contract: both lassos are followed, and the letters so far agree (`Following`).
-- Assumes nothing.
use Rattle.sameword.proofs.Agreement.{Following}
use Rattle.sameword.proofs.letters_agree.Given as goal

abbrev pub invariant-loop : goal.invariant-loop
invariant-loop l =
    Following l.first.stem.now l.first.cycle.now l.second.stem.now l.second.cycle.now l.at l.other_at l.counter
