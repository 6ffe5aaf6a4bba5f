-- `normalform::node_bytes` meets its contract: by the node's kind, the three bytes that `entry` has.
-- Assumes nothing.
use native.Mathlib.Omega.{arith}
use mathlib.Core.Path.{◌≡◌, ap}
use mathlib.Core.Logic.{◌⊎◌, inl, inr}
use Rattle.formula.specs.declared.kind.Kind.TheVariants.{Implies}
use Rattle.normalform.specs.Memory.{number_in}
use Rattle.normalform.proofs.Fitting.{passed_node}
use Rattle.normalform.proofs.Arms.{Paired, single_inner, both_left, both_inner}
use Rattle.normalform.proofs.Walking.{left_below, right_below}
use Rattle.normalform.proofs.Entries.{leaf_made, next_made, future_made, both_made}
use Rattle.normalform.proofs.node_bytes.Goals as goal
use Rattle.normalform.proofs.node_bytes.Goals.{In_default}

-- what has two children
both : (c : In_default) → (c.kind-kind.result ≡ Implies) ⊎ Paired c.kind-kind.result
both c =
    let d = c.in_default in
    both_left c.kind-kind.result (omega (arith, c.kind-kind.ensures, c.requires.1.constant))
    (λ e. c.requires.1.negation (omega (arith, c.kind-kind.ensures))) d.not-Proposition d.not-NegatedProposition
    d.not-Next d.not-Always d.not-Eventually

pub form_node-requires : goal.form_node-requires
form_node-requires c =
    let node = passed_node _ c.args.rule.now.accepted _ c.requires.0 in
    let below = left_below node _ c.kind-kind.ensures c.left.ensures (single_inner (inl c.in-Next.is)) in
    (omega (arith, c.requires.0), c.requires.2)

pub form_node-child-requires : goal.form_node-child-requires
form_node-child-requires c =
    let node = passed_node _ c.args.rule.now.accepted _ c.requires.0 in
    let below =
    left_below node _ c.kind-kind.ensures c.left-in-Always.ensures (single_inner (inr c.in-Always.is)) in
    (omega (arith, c.requires.0), c.requires.2)

pub form_node-left-requires : goal.form_node-left-requires
form_node-left-requires c =
    let node = passed_node _ c.args.rule.now.accepted _ c.requires.0 in
    let inner = both_inner (both (goal.at.form_node-left-requires c).In_default) in
    let below = left_below node _ c.kind-kind.ensures c.left-in_default.ensures inner in
    (omega (arith, c.requires.0), c.requires.2)

pub form_node-right-requires : goal.form_node-right-requires
form_node-right-requires c =
    let node = passed_node _ c.args.rule.now.accepted _ c.requires.0 in
    let inner = both_inner (both (goal.at.form_node-right-requires c).In_default) in
    let below = right_below node _ c.kind-kind.ensures c.right.ensures inner in
    (omega (arith, c.requires.0), c.requires.2)

pub returns-in-Proposition : goal.returns-in-Proposition
returns-in-Proposition c =
    leaf_made (number_in c.args.numbers.now) (passed_node _ c.args.rule.now.accepted _ c.requires.0) c.args.negated _
    c.kind-kind.ensures c.form_kind-new.ensures c.in-Proposition.is

pub returns-in-Next : goal.returns-in-Next
returns-in-Next c =
    next_made (number_in c.args.numbers.now) (passed_node _ c.args.rule.now.accepted _ c.requires.0) c.args.negated _
    c.kind-kind.ensures c.form_kind-new.ensures c.left.ensures c.in-Next.is c.form_node.ensures

pub returns-in-Always : goal.returns-in-Always
returns-in-Always c =
    future_made (number_in c.args.numbers.now) (passed_node _ c.args.rule.now.accepted _ c.requires.0) c.args.negated _
    c.kind-kind.ensures c.form_kind-new.ensures c.left-in-Always.ensures c.in-Always.is
    (ap (number_in c.args.numbers.now) c.constant_code.ensures.0) c.form_node-child.ensures

pub returns-in_default : goal.returns-in_default
returns-in_default c =
    both_made (number_in c.args.numbers.now) (passed_node _ c.args.rule.now.accepted _ c.requires.0) c.args.negated _
    c.kind-kind.ensures c.form_kind-new.ensures c.left-in_default.ensures
    (both (goal.at.returns-in_default c).In_default) c.left_sense.ensures c.form_node-left.ensures c.right.ensures
    c.form_node-right.ensures
