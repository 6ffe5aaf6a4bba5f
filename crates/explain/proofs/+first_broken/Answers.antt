-- `explain::first_broken` meets its contract: by the clauses of the children, whose numbers are lower. Assumes nothing.
use mathlib.Core.Path.{◌≡◌, refl, ◌∙◌}
use native.Mathlib.Omega.{arith}
use Rattle.std.proofs.Common.{rules}
use Rattle.answer.proofs.Lowest.{passes_fine}
use Rattle.formula.specs.Kind.{kind_number}
use Rattle.formula.specs.Rule.{kind_at}
use Rattle.explain.specs.Memory.{first}
use Rattle.explain.proofs.Clauses.{left_low, right_low}
use Rattle.explain.proofs.Naming.{no_and, in_left, in_right}
use Rattle.explain.proofs.+first_broken.Goals as goal

pub returns-then-ne : goal.returns-then-ne
returns-then-ne t c =
    c.then_some.ensures
    ∙ no_and (first c.args.table.now) _ (passes_fine _ c.args.rule.now.accepted) _ c.requires.0 _ c.kind.ensures.number
    (λ e. search rules)

pub first_broken-requires : goal.first_broken-requires
first_broken-requires t c =
    let is_and : kind_at c.args.rule.now.bytes.now c.args.n ≡ 4 = search rules in
    let l = left_low _ (passes_fine _ c.args.rule.now.accepted) c.args.n c.requires.0 is_and in
    let r = right_low _ (passes_fine _ c.args.rule.now.accepted) c.args.n c.requires.0 is_and in
    let x = c.left-left.ensures in
    let y = c.right-right.ensures in
    (omega (arith, x, y), (omega (arith, x, y), c.requires.1))

pub first_broken-requires-in-None : goal.first_broken-requires-in-None
first_broken-requires-in-None t c =
    let is_and : kind_at c.args.rule.now.bytes.now c.args.n ≡ 4 = search rules in
    let l = left_low _ (passes_fine _ c.args.rule.now.accepted) c.args.n c.requires.0 is_and in
    let r = right_low _ (passes_fine _ c.args.rule.now.accepted) c.args.n c.requires.0 is_and in
    let x = c.left-left.ensures in
    let y = c.right-right.ensures in
    (omega (arith, x, y), (omega (arith, x, y), c.requires.1))

pub returns-in-None : goal.returns-in-None
returns-in-None t c =
    let is_and : kind_number c.kind.result ≡ 4 = search rules in
    in_right _ _ (passes_fine _ c.args.rule.now.accepted) _ c.requires.0 _ c.kind.ensures.number _ _ c.left-left.ensures
    c.right-right.ensures is_and c.in-None.ensures c.first_broken-in-None.ensures

pub returns-in_default : goal.returns-in_default
returns-in_default t c =
    let is_and : kind_number c.kind.result ≡ 4 = search rules in
    in_left _ _ (passes_fine _ c.args.rule.now.accepted) _ c.requires.0 _ c.kind.ensures.number _ _ c.left-left.ensures refl
    is_and _ c.in_default.not-None c.first_broken.ensures
