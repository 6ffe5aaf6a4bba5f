-- `automaton::reads_letter` meets its contract: the two tests of `reads` in one (`tests_joined`).
-- Assumes nothing.
use lib.Bits.{bit_and, bit_or}
use Rattle.automaton.proofs.LetterTests.{tests_joined}
use Rattle.automaton.proofs.reads_letter.Goals as goal

pub returns : goal.returns
returns c =
    tests_joined (bit_or c.args.must c.args.letter) c.args.letter
    (bit_and c.args.must_not c.args.letter)
