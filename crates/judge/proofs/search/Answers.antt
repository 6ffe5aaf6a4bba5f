-- `judge::search` meets its contract: the rows are made one after another, and what the last ones hold is the verdict;
-- it ends early only where there is no accepting pass. Assumes nothing.
use native.Mathlib.Omega.{arith}
use Prim.Native.Nat.{ℕ, ◌+◌, ◌*◌, ◌≤◌}
use mathlib.Core.Path.{sym, ◌∙◌}
use lib.ListN.{length, length-take}
use Rattle.automaton.specs.Limits.{max_states}
use Rattle.image.specs.Lookup.{image_automaton}
use Rattle.image.proofs.Accepted.{readable_in_range}
use Rattle.image.proofs.Lookup.{automaton_states, accepts_inside, accepts_byte}
use Rattle.image.proofs.Known.{known, states_known, few_known}
use Rattle.judge.proofs.Verdicts.{Counted, begun_of, begun_confined, rows_covered, never_accepts, lost_in_cycle}
use Rattle.judge.proofs.Verdicts.{verdict}
use Rattle.judge.proofs.search.Goals as goal
use Rattle.judge.proofs.search.Goals.{Start}

-- what is known of the n states
counted : (c : Start) → Counted (image_automaton c.args.image.now.bytes.now) c.args.image.now.counts.states
counted c =
    let image = c.args.image.now in
    record {
      few = few_known image;
      size = automaton_states image.bytes.now ∙ sym (states_known image);
      range = readable_in_range image.bytes.now (known image);
    }

-- there are marks for all of them where the cycle begins
marked : (c : Start)
    → max_states * length c.args.lasso.now.stem.now + c.args.image.now.counts.states ≤ length c.args.work.now
marked c = omega (arith, few_known c.args.image.now, c.requires.0, c.requires.1)

pub returns-then-not-some_accepting : goal.returns-then-not-some_accepting
returns-then-not-some_accepting c =
    let image = c.args.image.now in
    never_accepts (image_automaton image.bytes.now) _ _
    (λ q h. c.some_accepting.ensures.no c.if-not-some_accepting.true (
      q,
      rw (states_known image) (accepts_inside image.bytes.now q h),
      accepts_byte image.bytes.now q h,
    ))

pub overflow_add-marks_at : goal.overflow_add-marks_at
overflow_add-marks_at c = omega (arith, marked (goal.at.overflow_add-marks_at c).Start)

pub slice_bounds-begin_passes-end : goal.slice_bounds-begin_passes-end
slice_bounds-begin_passes-end c = omega (arith, marked (goal.at.slice_bounds-begin_passes-end c).Start)

pub begin_passes-requires : goal.begin_passes-requires
begin_passes-requires c =
    let few = (counted (goal.at.begin_passes-requires c).Start).few in
    omega (arith, length-take {A = ℕ})

pub run-requires : goal.run-requires
run-requires c =
    let start = (goal.at.run-requires c).Start in
    begun_confined (counted start) _ _ c.requires.0 c.requires.2
    (begun_of _ _ c.args.work.now (marked start) c.begin_passes.ensures)

pub returns-then-not-run : goal.returns-then-not-run
returns-then-not-run c =
    let start = (goal.at.returns-then-not-run c).Start in
    lost_in_cycle (counted start) _ _ c.requires.0 c.requires.2
    (begun_of _ _ c.args.work.now (marked start) c.begin_passes.ensures) (c.run.ensures.lost c.if-not-run.true)

pub close-requires : goal.close-requires
close-requires c =
    let start = (goal.at.close-requires c).Start in (
      (counted start).few,
      rows_covered (counted start) _ _ c.requires.0 c.requires.2
          (begun_of _ _ c.args.work.now (marked start) c.begin_passes.ensures) (c.run.ensures.on c.if-not-run.false),
    )

pub some_back-requires : goal.some_back-requires
some_back-requires c = (counted (goal.at.some_back-requires c).Start).few

pub returns : goal.returns
returns c =
    let start = (goal.at.returns c).Start in
    verdict (counted start) _ _ c.requires.0 c.requires.2
    (begun_of _ _ c.args.work.now (marked start) c.begin_passes.ensures) (c.run.ensures.on c.if-not-run.false)
    c.close.ensures c.some_back.ensures
