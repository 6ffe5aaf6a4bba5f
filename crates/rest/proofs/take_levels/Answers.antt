-- `rest::take_levels` meets its contract: each turn takes a level (`Levels`); the pairs taken grow, and are at most as
-- many as there are bytes. Assumes nothing.
use native.Mathlib.Omega.{arith}
use Prim.Native.Nat.{◌+◌, ◌*◌, ◌≤◌}
use mathlib.Core.Path.{refl, sym, ◌∙◌}
use mathlib.Core.List.{[]}
use lib.ListN.{length}
use Rattle.automaton.specs.Limits.{max_states}
use Rattle.image.proofs.Accepted.{readable_in_range}
use Rattle.image.proofs.Lookup.{automaton_states}
use Rattle.image.proofs.Known.{known, states_known, few_known}
use Rattle.rest.proofs.Levels.{blank_marks, fresh_shows, before_first, before_few, before_none}
use Rattle.rest.proofs.take_levels.Goals as goal
use Rattle.rest.proofs.take_levels.Goals.{At-loop-level}

module _ (c : At-loop-level) where
  bytes : max_states * (length c.args.lasso.now.stem.now + length c.args.lasso.now.cycle.now)
      ≤ length c.loop-level.work
  bytes = omega (arith, c.requires.1, c.loop-level.auto.work)

  -- the pairs taken, with those of the level, are at most as many as there are bytes
  few : c.loop-level.taken + c.loop-level.level.count ≤ length c.args.work.now
  few =
      let en = states_known c.args.image.now ∙ sym (automaton_states c.args.image.now.bytes.now) in
      let range = readable_in_range _ (known c.args.image.now) in
      omega (arith, c.loop-level.auto.work, before_few _ _ _ c.loop-level.invariant range c.requires.0 en bytes)

pub begin-requires : goal.begin-requires
begin-requires c = record {
  older = [];
  met = [];
  shows = fresh_shows _ (few_known c.args.image.now) (omega (arith, c.requires.0, c.requires.1)) refl
      (blank_marks c.requires.2);
}

pub loop-level-init : goal.loop-level-init
loop-level-init c =
    before_first _ _ _ c.requires.0
    (fresh_shows _ (few_known c.args.image.now) (omega (arith, c.requires.0, c.requires.1)) refl
    (blank_marks c.requires.2))
    (c.begin.ensures _ _)

pub overflow_add-taken : goal.overflow_add-taken
overflow_add-taken c = omega (arith, few (goal.at.overflow_add-taken c).At-loop-level)

pub loop-level-smaller : goal.loop-level-smaller
loop-level-smaller c = omega (arith, few (goal.at.loop-level-smaller c).At-loop-level, c.loop-level.auto.work)

pub returns : goal.returns
returns c =
    let (rests, pairs, marked) =
    before_none _ _ _ c.loop-level.invariant (omega arith) (bytes (goal.at.returns c).At-loop-level) in
    (rests, pairs, λ e. marked)
