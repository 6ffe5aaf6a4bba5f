-- `explain::break_at` meets its contract: by the clause's kind, and by the rows of its sides. Assumes nothing.
use mathlib.Core.Path.{refl}
use native.Mathlib.Omega.{arith}
use Rattle.std.proofs.Common.{rules}
use Rattle.answer.proofs.Lowest.{passes_fine}
use Rattle.explain.proofs.Telling.{Known, left_fits, right_fits, same_length, other_is, until_is, release_is}
use Rattle.explain.proofs.break_at.Goals as goal
use Rattle.explain.proofs.break_at.Goals.{After-kind}

known : (c : After-kind)
    → Known c.args.rule.now.bytes.now c.args.lasso.now.stem.now c.args.lasso.now.cycle.now c.args.table.now
known c = record {
  fine_rule = passes_fine _ c.args.rule.now.accepted;
  room = c.requires.1;
  done = c.requires.2;
}

pub row-requires : goal.row-requires
row-requires c =
    left_fits (known (goal.at.row-requires c).After-kind) c.requires.0 c.in-Until.ensures.number (omega arith)
    c.left-left.ensures

pub row-requires-in-Until : goal.row-requires-in-Until
row-requires-in-Until c =
    right_fits (known (goal.at.row-requires-in-Until c).After-kind) c.requires.0 c.in-Until.ensures.number (omega arith)
    c.right-right.ensures

pub until_break-requires : goal.until_break-requires
until_break-requires c =
    same_length (known (goal.at.until_break-requires c).After-kind) c.requires.0 c.in-Until.ensures.number (omega arith)
    c.left-left.ensures c.right-right.ensures c.row.ensures c.row-in-Until.ensures

pub returns-in-Until : goal.returns-in-Until
returns-in-Until c =
    until_is (known (goal.at.returns-in-Until c).After-kind) c.requires.0 c.in-Until.ensures.number (omega arith)
    c.left-left.ensures c.right-right.ensures c.row.ensures c.row-in-Until.ensures refl c.until_break.ensures

pub row-requires-in-Release : goal.row-requires-in-Release
row-requires-in-Release c =
    left_fits (known (goal.at.row-requires-in-Release c).After-kind) c.requires.0 c.in-Release.ensures.number
    (omega arith) c.left-left.ensures

pub row-requires-in-Release-2 : goal.row-requires-in-Release-2
row-requires-in-Release-2 c =
    right_fits (known (goal.at.row-requires-in-Release-2 c).After-kind) c.requires.0 c.in-Release.ensures.number
    (omega arith) c.right-right.ensures

pub release_break-requires : goal.release_break-requires
release_break-requires c =
    same_length (known (goal.at.release_break-requires c).After-kind) c.requires.0 c.in-Release.ensures.number
    (omega arith) c.left-left.ensures c.right-right.ensures c.row-in-Release.ensures c.row-in-Release-2.ensures

pub returns-in-Release : goal.returns-in-Release
returns-in-Release c =
    release_is (known (goal.at.returns-in-Release c).After-kind) c.requires.0 c.in-Release.ensures.number (omega arith)
    c.left-left.ensures c.right-right.ensures c.row-in-Release.ensures c.row-in-Release-2.ensures refl
    c.release_break.ensures

pub returns-in_default : goal.returns-in_default
returns-in_default c =
    other_is (known (goal.at.returns-in_default c).After-kind) c.requires.0 c.kind.ensures.number
    (λ e. search rules) (λ e. search rules)
