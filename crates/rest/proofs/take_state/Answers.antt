-- `rest::take_state` meets its contract: each turn follows one record (`Filling`), and the records are those of the
-- state's transitions. Assumes nothing.
use native.Mathlib.Omega.{arith}
use Prim.Native.Nat.{ℕ, ◌+◌, ◌*◌, ◌<◌, ◌≤◌}
use mathlib.Core.Path.{◌≡◌}
use lib.ListN.{get_or, length}
use Rattle.answer.specs.Bytes.{number_at}
use Rattle.image.specs.Reader.{counts_at}
use Rattle.image.specs.Lookup.{records_at}
use Rattle.image.proofs.Lookup.{records_end}
use Rattle.image.proofs.Known.{known, states_known}
use Rattle.rest.proofs.Filling.{fills_ready, target_below}
use Rattle.rest.proofs.Filling.{follows_begin, follows_step, follows_end, follows_full}
use Rattle.rest.proofs.take_state.Goals as goal
use Rattle.rest.proofs.take_state.Goals.{After-number_at-records}

-- where the records of the state begin and end
module _ (c : After-number_at-records) where
  state : c.args.q < (counts_at c.args.image.now.bytes.now).states
  state = omega (arith, states_known c.args.image.now, c.requires.0)

  abbrev place : ℕ
  place = get_or c.args.places.now c.args.q 0

  begins : place ≡ records_at c.args.image.now.bytes.now c.args.q
  begins = c.requires.1.begin c.args.q state

  inside : place + 4 * c.number_at-records.result ≤ length c.args.image.now.bytes.now
  inside =
      omega (arith, begins, c.number_at-records.ensures, records_end _ (known c.args.image.now) c.args.q state)

  below : (i : ℕ) → i < c.number_at-records.result
      → number_at c.args.image.now.bytes.now (place + 4 * i + 2) < c.args.image.now.counts.states
  below i lt =
      rw (states_known c.args.image.now)
      (target_below _ (known c.args.image.now) c.args.q state begins c.number_at-records.ensures i lt)

pub returns-then-image-level : goal.returns-then-image-level
returns-then-image-level c =
    follows_full _ (known c.args.image.now) c.args.q c.args.letter (states_known c.args.image.now)
    c.if-image-level.true

pub loop-i-init : goal.loop-i-init
loop-i-init c = follows_begin c.args.image.now.bytes.now (place c) c.args.letter

pub overflow_mul-i : goal.overflow_mul-i
overflow_mul-i c = omega (arith, inside (goal.at.overflow_mul-i c).After-number_at-records)

pub overflow_add-at : goal.overflow_add-at
overflow_add-at c = omega (arith, inside (goal.at.overflow_add-at c).After-number_at-records)

pub follow-requires : goal.follow-requires
follow-requires c =
    let here = (goal.at.follow-requires c).After-number_at-records in
    (omega (arith, inside here), (_, below here c.loop-i.i (omega arith), fills_ready c.loop-i.invariant c.requires.2))

pub loop-i-preserved : goal.loop-i-preserved
loop-i-preserved c =
    follows_step c.args.image.now.bytes.now _ c.args.letter c.loop-i.i c.loop-i.invariant
    (c.follow.ensures _ (below (goal.at.loop-i-preserved c).After-number_at-records c.loop-i.i (omega arith)))

pub returns : goal.returns
returns c =
    let here = (goal.at.returns c).After-number_at-records in
    follows_end c.args.image.now.bytes.now c.args.q c.args.letter (state here) (begins here)
    (omega (arith, c.number_at-records.ensures)) c.loop-i.invariant
