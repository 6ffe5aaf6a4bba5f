-- `explain::explain_by` meets its contract: the searches over the table that is filled. Assumes nothing.
use native.Mathlib.Omega.{arith}
use mathlib.Core.Path.{sym}
use Rattle.answer.proofs.Lowest.{passes_fine}
use Rattle.formula.proofs.Accepted.{accepted_fine}
use Rattle.explain.proofs.Named.{kept_is}
use Rattle.explain.proofs.Telling.{Known, named_is, named_inside, broken_is, never_is}
use Rattle.explain.proofs.explain_by.Goals as goal
use Rattle.explain.proofs.explain_by.Goals.{After-fill}

-- what the function was given, and the table that it filled
known : (c : After-fill)
    → Known c.args.rule.now.bytes.now c.args.lasso.now.stem.now c.args.lasso.now.cycle.now c.fill.new.table
known c = record {
  fine_rule = passes_fine _ c.args.rule.now.accepted;
  room = record {
    some = c.requires.some;
    few = c.requires.few;
    places = omega (arith, c.requires.places);
  };
  done = c.fill.ensures;
}

pub overflow_sub-count : goal.overflow_sub-count
overflow_sub-count c =
    omega (arith, c.count.ensures, (accepted_fine _ (passes_fine _ c.args.rule.now.accepted)).some)

pub first_broken-requires : goal.first_broken-requires
first_broken-requires c = (
  omega (arith, c.count.ensures, (accepted_fine _ (passes_fine _ c.args.rule.now.accepted)).some),
  (known (goal.at.first_broken-requires c).After-fill).room.places,
)

pub break_at-requires : goal.break_at-requires
break_at-requires c =
    let k = known (goal.at.break_at-requires c).After-fill in
    (named_inside k _ (named_is k c.count.ensures c.in-Some.ensures), k.room, k.done)

pub returns-in-None : goal.returns-in-None
returns-in-None c =
    kept_is _ _ _ (sym (named_is (known (goal.at.returns-in-None c).After-fill) c.count.ensures c.in-None.ensures))

pub returns-in-Some-break_at : goal.returns-in-Some-break_at
returns-in-Some-break_at c =
    let k = known (goal.at.returns-in-Some-break_at c).After-fill in
    broken_is _ _ _ _ (named_is k c.count.ensures c.in-Some.ensures) _ c.in-Some-break_at.ensures

pub returns-in-None-break_at : goal.returns-in-None-break_at
returns-in-None-break_at c =
    let k = known (goal.at.returns-in-None-break_at c).After-fill in
    never_is _ _ _ _ (named_is k c.count.ensures c.in-Some.ensures) c.in-None-break_at.ensures
