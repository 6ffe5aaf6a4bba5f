-- `image::check_rests` meets its contract: the last bytes before q are right, and the transition records of q begin
-- where those before them end. Assumes nothing.
use mathlib.Core.Path.{◌≡◌}
use Prim.Native.Nat.{◌*◌}
use Rattle.answer.specs.Result.{fine, lowest}
use Rattle.image.specs.Reader.{count_sum, states_from, rest_check}
use Rattle.image.proofs.check_rests.Given as goal

abbrev pub invariant-loop-q : goal.invariant-loop-q
invariant-loop-q l =
    (lowest (rest_check (states_from l.n l.states l.transitions) l.states) l.q ≡ fine)
    × (l.at ≡ 4 * count_sum l.states l.q)
