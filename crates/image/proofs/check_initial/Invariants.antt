-- `image::check_initial` meets its contract: the numbers before i are fine, and the next is to be above the last of
-- them. Assumes nothing.
use mathlib.Core.Path.{◌≡◌}
use Rattle.answer.specs.Result.{fine, lowest}
use Rattle.image.specs.Reader.{initial_check}
use Rattle.image.proofs.Rising.{least_at}
use Rattle.image.proofs.check_initial.Given as goal

abbrev pub invariant-loop-i : goal.invariant-loop-i
invariant-loop-i l = (lowest (initial_check l.state_count l.initial') l.i ≡ fine) × (l.least ≡ least_at l.initial' l.i)
