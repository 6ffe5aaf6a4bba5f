-- `normalform::walk_plain` and `normalform::walk_negated` meet their contracts: each adds a node's own codes and goes
-- on to its children, which have lower numbers, by itself or by the other. Assumes nothing.
use native.Mathlib.Omega.{arith}
use mathlib.Core.Bool.{true, false}
use mathlib.Core.Path.{◌∙◌}
use Rattle.normalform.proofs.Fitting.{passed_node}
use Rattle.normalform.proofs.Arms.{not_inner, implies_inner, single_inner, paired_inner}
use Rattle.normalform.proofs.Walking.{few_nodes, left_below, right_below, leaf_added, not_added, single_added}
use Rattle.normalform.proofs.Walking.{implies_added, paired_added}
use Rattle.normalform.proofs.+walk_negated_walk_plain.Goals as goal

-- ---- negated

pub walk_negated-add_own-requires : goal.walk_negated-add_own-requires
walk_negated-add_own-requires t c = (few_nodes _ c.args.rule.now.accepted _ c.requires.0, c.requires.1)

pub walk_negated-walk_plain-requires : goal.walk_negated-walk_plain-requires
walk_negated-walk_plain-requires t c =
    let node = passed_node _ c.args.rule.now.accepted _ c.requires.0 in
    let below = left_below node _ c.kind-kind.ensures c.left.ensures (not_inner c.in-Not.is) in
    (omega arith, (omega (arith, c.requires.0), c.add_own.ensures.same ∙ c.requires.1))

pub walk_negated-walk_negated-requires : goal.walk_negated-walk_negated-requires
walk_negated-walk_negated-requires t c =
    let node = passed_node _ c.args.rule.now.accepted _ c.requires.0 in
    let below = left_below node _ c.kind-kind.ensures c.left-in-Next.ensures (single_inner c.in-Next.is) in
    (omega arith, (omega (arith, c.requires.0), c.add_own.ensures.same ∙ c.requires.1))

pub walk_negated-walk_plain-requires-in-Implies : goal.walk_negated-walk_plain-requires-in-Implies
walk_negated-walk_plain-requires-in-Implies t c =
    let node = passed_node _ c.args.rule.now.accepted _ c.requires.0 in
    let below = left_below node _ c.kind-kind.ensures c.left-in-Implies.ensures (implies_inner c.in-Implies.is) in
    (omega arith, (omega (arith, c.requires.0), c.add_own.ensures.same ∙ c.requires.1))

pub walk_negated-walk_negated-requires-in-Implies : goal.walk_negated-walk_negated-requires-in-Implies
walk_negated-walk_negated-requires-in-Implies t c =
    let node = passed_node _ c.args.rule.now.accepted _ c.requires.0 in
    let below = right_below node _ c.kind-kind.ensures c.right.ensures (implies_inner c.in-Implies.is) in
    let same = c.walk_plain-in-Implies.ensures.same ∙ c.add_own.ensures.same ∙ c.requires.1 in
    (omega arith, (omega (arith, c.requires.0), same))

pub walk_negated-walk_negated-requires-in-And : goal.walk_negated-walk_negated-requires-in-And
walk_negated-walk_negated-requires-in-And t c =
    let node = passed_node _ c.args.rule.now.accepted _ c.requires.0 in
    let below = left_below node _ c.kind-kind.ensures c.left-in-And.ensures (paired_inner c.in-And.is) in
    (omega arith, (omega (arith, c.requires.0), c.add_own.ensures.same ∙ c.requires.1))

pub walk_negated-walk_negated-requires-in-And-2 : goal.walk_negated-walk_negated-requires-in-And-2
walk_negated-walk_negated-requires-in-And-2 t c =
    let node = passed_node _ c.args.rule.now.accepted _ c.requires.0 in
    let below = right_below node _ c.kind-kind.ensures c.right-in-And.ensures (paired_inner c.in-And.is) in
    let same = c.walk_negated-in-And.ensures.same ∙ c.add_own.ensures.same ∙ c.requires.1 in
    (omega arith, (omega (arith, c.requires.0), same))

pub walk_negated-returns-in-False : goal.walk_negated-returns-in-False
walk_negated-returns-in-False t c =
    let node = passed_node _ c.args.rule.now.accepted _ c.requires.0 in
    leaf_added node _ c.kind-kind.ensures true c.add_own.ensures c.in-False.is

pub walk_negated-returns-in-Not : goal.walk_negated-returns-in-Not
walk_negated-returns-in-Not t c =
    let node = passed_node _ c.args.rule.now.accepted _ c.requires.0 in
    not_added node _ c.kind-kind.ensures true c.add_own.ensures c.left.ensures c.in-Not.is c.walk_plain.ensures

pub walk_negated-returns-in-Next : goal.walk_negated-returns-in-Next
walk_negated-returns-in-Next t c =
    let node = passed_node _ c.args.rule.now.accepted _ c.requires.0 in
    single_added node _ c.kind-kind.ensures true c.add_own.ensures
    c.left-in-Next.ensures c.in-Next.is c.walk_negated.ensures

pub walk_negated-returns-in-Implies : goal.walk_negated-returns-in-Implies
walk_negated-returns-in-Implies t c =
    let node = passed_node _ c.args.rule.now.accepted _ c.requires.0 in
    implies_added node _ c.kind-kind.ensures true c.add_own.ensures
    c.left-in-Implies.ensures c.right.ensures c.walk_negated-in-Implies.ensures c.in-Implies.is
    c.walk_plain-in-Implies.ensures

pub walk_negated-returns-in-And : goal.walk_negated-returns-in-And
walk_negated-returns-in-And t c =
    let node = passed_node _ c.args.rule.now.accepted _ c.requires.0 in
    paired_added node _ c.kind-kind.ensures true c.add_own.ensures
    c.left-in-And.ensures c.right-in-And.ensures c.walk_negated-in-And-2.ensures c.in-And.is
    c.walk_negated-in-And.ensures

-- ---- plain

pub walk_plain-add_own-requires : goal.walk_plain-add_own-requires
walk_plain-add_own-requires t c = (few_nodes _ c.args.rule.now.accepted _ c.requires.0, c.requires.1)

pub walk_plain-walk_negated-requires : goal.walk_plain-walk_negated-requires
walk_plain-walk_negated-requires t c =
    let node = passed_node _ c.args.rule.now.accepted _ c.requires.0 in
    let below = left_below node _ c.kind-kind.ensures c.left.ensures (not_inner c.in-Not.is) in
    (omega arith, (omega (arith, c.requires.0), c.add_own.ensures.same ∙ c.requires.1))

pub walk_plain-walk_plain-requires : goal.walk_plain-walk_plain-requires
walk_plain-walk_plain-requires t c =
    let node = passed_node _ c.args.rule.now.accepted _ c.requires.0 in
    let below = left_below node _ c.kind-kind.ensures c.left-in-Next.ensures (single_inner c.in-Next.is) in
    (omega arith, (omega (arith, c.requires.0), c.add_own.ensures.same ∙ c.requires.1))

pub walk_plain-walk_negated-requires-in-Implies : goal.walk_plain-walk_negated-requires-in-Implies
walk_plain-walk_negated-requires-in-Implies t c =
    let node = passed_node _ c.args.rule.now.accepted _ c.requires.0 in
    let below = left_below node _ c.kind-kind.ensures c.left-in-Implies.ensures (implies_inner c.in-Implies.is) in
    (omega arith, (omega (arith, c.requires.0), c.add_own.ensures.same ∙ c.requires.1))

pub walk_plain-walk_plain-requires-in-Implies : goal.walk_plain-walk_plain-requires-in-Implies
walk_plain-walk_plain-requires-in-Implies t c =
    let node = passed_node _ c.args.rule.now.accepted _ c.requires.0 in
    let below = right_below node _ c.kind-kind.ensures c.right.ensures (implies_inner c.in-Implies.is) in
    let same = c.walk_negated-in-Implies.ensures.same ∙ c.add_own.ensures.same ∙ c.requires.1 in
    (omega arith, (omega (arith, c.requires.0), same))

pub walk_plain-walk_plain-requires-in-And : goal.walk_plain-walk_plain-requires-in-And
walk_plain-walk_plain-requires-in-And t c =
    let node = passed_node _ c.args.rule.now.accepted _ c.requires.0 in
    let below = left_below node _ c.kind-kind.ensures c.left-in-And.ensures (paired_inner c.in-And.is) in
    (omega arith, (omega (arith, c.requires.0), c.add_own.ensures.same ∙ c.requires.1))

pub walk_plain-walk_plain-requires-in-And-2 : goal.walk_plain-walk_plain-requires-in-And-2
walk_plain-walk_plain-requires-in-And-2 t c =
    let node = passed_node _ c.args.rule.now.accepted _ c.requires.0 in
    let below = right_below node _ c.kind-kind.ensures c.right-in-And.ensures (paired_inner c.in-And.is) in
    let same = c.walk_plain-in-And.ensures.same ∙ c.add_own.ensures.same ∙ c.requires.1 in
    (omega arith, (omega (arith, c.requires.0), same))

pub walk_plain-returns-in-False : goal.walk_plain-returns-in-False
walk_plain-returns-in-False t c =
    let node = passed_node _ c.args.rule.now.accepted _ c.requires.0 in
    leaf_added node _ c.kind-kind.ensures false c.add_own.ensures c.in-False.is

pub walk_plain-returns-in-Not : goal.walk_plain-returns-in-Not
walk_plain-returns-in-Not t c =
    let node = passed_node _ c.args.rule.now.accepted _ c.requires.0 in
    not_added node _ c.kind-kind.ensures false c.add_own.ensures c.left.ensures c.in-Not.is c.walk_negated.ensures

pub walk_plain-returns-in-Next : goal.walk_plain-returns-in-Next
walk_plain-returns-in-Next t c =
    let node = passed_node _ c.args.rule.now.accepted _ c.requires.0 in
    single_added node _ c.kind-kind.ensures false c.add_own.ensures
    c.left-in-Next.ensures c.in-Next.is c.walk_plain.ensures

pub walk_plain-returns-in-Implies : goal.walk_plain-returns-in-Implies
walk_plain-returns-in-Implies t c =
    let node = passed_node _ c.args.rule.now.accepted _ c.requires.0 in
    implies_added node _ c.kind-kind.ensures false c.add_own.ensures
    c.left-in-Implies.ensures c.right.ensures c.walk_plain-in-Implies.ensures c.in-Implies.is
    c.walk_negated-in-Implies.ensures

pub walk_plain-returns-in-And : goal.walk_plain-returns-in-And
walk_plain-returns-in-And t c =
    let node = passed_node _ c.args.rule.now.accepted _ c.requires.0 in
    paired_added node _ c.kind-kind.ensures false c.add_own.ensures
    c.left-in-And.ensures c.right-in-And.ensures c.walk_plain-in-And-2.ensures c.in-And.is c.walk_plain-in-And.ensures
