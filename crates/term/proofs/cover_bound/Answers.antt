-- `term::cover_bound` meets its contract: an and, an or by the bounds of its children, every other node has 1; two
-- numbers up to one more than max_terms have a product that fits. Assumes nothing.
use mathlib.Core.Path.{◌≡◌, refl}
use native.Mathlib.Omega.{arith}
use native.Mathlib.Nat.{mul-le-mul}
use Rattle.formula.specs.Kind.{kind_number}
use Rattle.term.proofs.Sizes.{ready_node}
use Rattle.term.proofs.Bounds.{children_bounded, bound_of_and, bound_of_or, bound_of_other}
use Rattle.term.proofs.cover_bound.Goals as goal

pub overflow_mul-bounds : goal.overflow_mul-bounds
overflow_mul-bounds c =
    let ready = ready_node c.args.rule.now.accepted c.requires.0 in
    let is-and : kind_number c.kind.result ≡ 4 = rw c.in-And.is refl in
    let few = children_bounded ready _ c.requires.1 c.kind.ensures.number c.left-left.ensures c.right-right.ensures
    (omega arith) in
    record { fits = omega (arith, mul-le-mul few.0 few.1) }

pub overflow_add-bounds : goal.overflow_add-bounds
overflow_add-bounds c =
    let ready = ready_node c.args.rule.now.accepted c.requires.0 in
    let is-or : kind_number c.kind.result ≡ 5 = rw c.in-Or.is refl in
    let few = children_bounded ready _ c.requires.1 c.kind.ensures.number c.left-left.ensures c.right-right.ensures
    (omega arith) in
    record { fits = omega (arith, few) }

pub returns-in-And : goal.returns-in-And
returns-in-And c =
    bound_of_and (ready_node c.args.rule.now.accepted c.requires.0) _ c.requires.1 c.kind.ensures.number
    c.left-left.ensures c.right-right.ensures (rw c.in-And.is refl) c.clip.ensures

pub returns-in-Or : goal.returns-in-Or
returns-in-Or c =
    bound_of_or (ready_node c.args.rule.now.accepted c.requires.0) _ c.requires.1 c.kind.ensures.number
    c.left-left.ensures c.right-right.ensures (rw c.in-Or.is refl) c.clip-in-Or.ensures

pub returns-in_default : goal.returns-in_default
returns-in_default c =
    bound_of_other (ready_node c.args.rule.now.accepted c.requires.0) c.kind.ensures.number c.in_default.not-And
    c.in_default.not-Or
