-- `rest::take_level` meets its contract: each turn takes one state of the level (`Levels`). Assumes nothing.
use native.Mathlib.Omega.{arith}
use Prim.Native.Nat.{◌+◌, ◌<◌, ◌≤◌}
use mathlib.Core.Path.{◌≡◌, sym, ◌∙◌}
use lib.ListN.{get_or, length, take}
use lib.Seq.{get_or-take}
use Rattle.image.specs.Reader.{counts_at}
use Rattle.image.proofs.Accepted.{readable_in_range}
use Rattle.image.proofs.Lookup.{automaton_states}
use Rattle.image.proofs.Known.{known, states_known, size_known}
use Rattle.rest.proofs.Levels.{taking_begins, taking_rests, taking_steps, taking_ends}
use Rattle.rest.proofs.Levels.{before_few, byte_rests, byte_calm}
use Rattle.rest.proofs.Marking.{shows_few, shows_long}
use borrow.Author.Rules.{rules}
use Rattle.rest.proofs.take_level.Goals as goal
use Rattle.rest.proofs.take_level.Goals.{At-loop-i, After-from-q}

module _ (c : At-loop-i) where
  -- the pairs taken are at most as many as there are bytes
  few : c.args.taken + c.args.level.now.count ≤ length c.args.work.now
  few =
      before_few _ _ _ c.requires.3 (readable_in_range _ (known c.args.image.now)) c.requires.1
      (states_known c.args.image.now ∙ sym (automaton_states c.args.image.now.bytes.now)) c.requires.2

  -- the level has as many states as it says
  long : length (take c.args.level.now.count c.args.level.now.states) ≡ c.args.level.now.count
  long = shows_long c.requires.3.shows

module _ (c : After-from-q) where
  inside : c.loop-i.i < c.args.level.now.count
  inside = omega (arith, long (goal.at.After-from-q c).At-loop-i)

  is : c.from-q.result ≡ get_or c.args.level.now.states c.loop-i.i 0
  is = c.from-q.ensures ∙ get_or-take _ _ c.loop-i.i 0 inside

  -- the state that is taken is one of the image's
  below : c.from-q.result < (counts_at c.args.image.now.bytes.now).states
  below = omega (arith, c.requires.3.shows.below c.loop-i.i inside, is, states_known c.args.image.now)

pub shared_ref_as_front-state-items : goal.shared_ref_as_front-state-items
shared_ref_as_front-state-items c =
    let shows = c.requires.3.shows in
    omega (arith, shows_few shows, shows.small)

pub loop-i-init : goal.loop-i-init
loop-i-init c =
    taking_begins _ _ _ (readable_in_range _ (known c.args.image.now)) c.requires.1 _ c.requires.2 (search rules)
    c.requires.3

pub bounds-image-q : goal.bounds-image-q
bounds-image-q c = omega (arith, below c, states_known c.args.image.now, size_known c.args.image.now)

pub overflow_add-result : goal.overflow_add-result
overflow_add-result c =
    omega (arith, few (goal.at.overflow_add-result c).At-loop-i, inside (goal.at.overflow_add-result c).After-from-q)

pub overflow_add-result-then-image-q-eq1 : goal.overflow_add-result-then-image-q-eq1
overflow_add-result-then-image-q-eq1 c =
    omega (
      arith,
      few (goal.at.overflow_add-result-then-image-q-eq1 c).At-loop-i,
      inside (goal.at.overflow_add-result-then-image-q-eq1 c).After-from-q,
    )

pub returns-then-image-q-eq1 : goal.returns-then-image-q-eq1
returns-then-image-q-eq1 c =
    let here = (goal.at.returns-then-image-q-eq1 c).After-from-q in
    let fine = known c.args.image.now in
    taking_rests _ _ _ (readable_in_range _ fine) c.requires.1 c.loop-i.i c.loop-i.invariant (inside here) _
    (is here) (byte_rests _ fine _ (below here) c.if-image-q-eq1.true)

pub loop-i-preserved : goal.loop-i-preserved
loop-i-preserved c =
    let here = (goal.at.loop-i-preserved c).After-from-q in
    let fine = known c.args.image.now in
    taking_steps _ _ _ (readable_in_range _ fine) c.requires.1 c.loop-i.i c.loop-i.invariant (inside here) _
    (is here) (byte_calm _ fine _ (below here) c.if-image-q-eq1.false)
    c.letter_at-letter.ensures c.position_after-onward.ensures c.take_state.ensures

pub returns : goal.returns
returns c =
    taking_ends _ _ _ (readable_in_range _ (known c.args.image.now)) c.requires.1 c.loop-i.i c.loop-i.invariant
    (omega (arith, long (goal.at.returns c).At-loop-i))
