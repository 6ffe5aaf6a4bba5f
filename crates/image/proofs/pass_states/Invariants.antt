-- `image::pass_states` meets its contract: the records before i are accepted, and the sum is what they add up to.
-- Assumes nothing.
use Prim.Native.Nat.{◌*◌, ◌≤◌}
use mathlib.Core.Path.{◌≡◌}
use Rattle.answer.specs.Result.{accepted}
use Rattle.automaton.specs.Limits.{max_of_state}
use Rattle.image.specs.Reader.{state_pass}
use Rattle.image.proofs.pass_states.Given as goal

abbrev pub invariant-loop-i : goal.invariant-loop-i
invariant-loop-i l = (state_pass l.states l.i ≡ accepted l.sum) × (l.sum ≤ max_of_state * l.i)
