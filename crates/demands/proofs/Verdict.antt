-- What judging says of a lasso and the image of a written rule's automaton, which is well-formed and recognizes what
-- satisfies the rule. Assumes nothing.
use Prim.Native.Nat.{ℕ, ◌+◌, ◌≤◌, ◌<◌}
use mathlib.Core.Path.{◌≡◌}
use mathlib.Core.List.{List}
use lib.ListN.{length}
use Rattle.answer.specs.Result.{accepted}
use Rattle.lasso.specs.Lasso.{remaining, max_letters}
use Rattle.automaton.specs.Automaton.{Automaton}
use Rattle.normalform.specs.Written.{SatisfiesWritten}
use Rattle.translation.specs.Translate.{written_translation}
use Rattle.image.specs.Image.{image_bytes}
use Rattle.judge.specs.Judge.{work_bytes, Exactly, judged}
use Rattle.judge.proofs.VerdictIff.{recognized_verdict}
use Rattle.correctness.proofs.WellFormed.{written_well_formed}
use Rattle.correctness.proofs.AcceptingPass.{written_recognizes}

-- Demand 3, of judging: the written rule is accepted, and a is its automaton, that of its negation normal form; the image
-- is the one byte string of a, whoever wrote it; a letter of the lasso's cycle remains, stem and cycle as they are lent
-- are within the limit of letters, and there are working bytes enough. Then the answer is kept exactly when the letters
-- that remain satisfy the rule as it is written, and broken exactly when they do not.
pub verdict_iff_satisfied : (rule stem cycle : List ℕ) (a : Automaton) → written_translation rule ≡ accepted a
    → (work : List ℕ) → 0 < length (remaining cycle) → length stem + length cycle ≤ max_letters
    → work_bytes ≤ length work
    → Exactly (judged (image_bytes a) stem cycle work).answer
    (SatisfiesWritten rule (remaining stem) (remaining cycle))
verdict_iff_satisfied rule stem cycle a e work pos few enough =
    recognized_verdict a (written_well_formed rule a e) stem cycle (written_recognizes rule a e) pos work few enough
