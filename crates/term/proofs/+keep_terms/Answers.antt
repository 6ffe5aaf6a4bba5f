-- `term::keep_terms` meets its contract: a node's terms by those of its children, whose numbers are lower, and for a
-- next by the cover of its child; its own row is stored last. Assumes nothing.
use mathlib.Core.Path.{◌≡◌, refl}
use Prim.Native.Nat.{◌<◌}
use native.Mathlib.Omega.{arith}
use borrow.Author.Rules.{rules}
use Rattle.formula.specs.Kind.{kind_number}
use Rattle.term.specs.Memory.{IsNode}
use Rattle.term.proofs.Sizes.{ready_node, own_node, ready_small, inside_below, left_lower, right_lower, of_leaf}
use Rattle.term.proofs.Descending.{found_terms, terms_next, terms_pair, conflicts_next, conflicts_pair}
use Rattle.term.proofs.Keeping.{keeps_leaf, keeps_next, keeps_pair}
use Rattle.term.proofs.+keep_terms.Goals as goal
use Rattle.term.proofs.+keep_terms.Goals.{in-Next, in-False, in_default}

pub terms_leaf-terms-requires : goal.terms_leaf-terms-requires
terms_leaf-terms-requires t c =
    let leaf : kind_number c.kind-kind.result < 4 = search rules in
    let node = own_node (ready_node c.args.rule.now.accepted c.requires.0) in
    let kind = c.kind-kind.ensures.number in
    (leaf, λ big. omega (arith, node.proposition (omega arith) (omega arith)))

pub keep_terms-operand-requires : goal.keep_terms-operand-requires
keep_terms-operand-requires t c =
    let node = ready_node c.args.rule.now.accepted c.requires.0 in
    let b = left_lower node c.kind-kind.ensures.number c.left-left.ensures (rw c.in-Next.is (omega arith)) in
    (omega arith, (inside_below node b, search rules))

pub cover_of-requires : goal.cover_of-requires
cover_of-requires t c =
    let node = ready_node c.args.rule.now.accepted c.requires.0 in
    inside_below node
    (left_lower node c.kind-kind.ensures.number c.left-left.ensures (rw c.in-Next.is (omega arith)))

pub keep_terms-a-requires : goal.keep_terms-a-requires
keep_terms-a-requires t c =
    let node = ready_node c.args.rule.now.accepted c.requires.0 in
    let inner : 3 < kind_number c.kind-kind.result = search rules in
    let b = left_lower node c.kind-kind.ensures.number c.left-left.ensures inner in
    (omega arith, (inside_below node b, search rules))

pub keep_terms-b-requires : goal.keep_terms-b-requires
keep_terms-b-requires t c =
    let node = ready_node c.args.rule.now.accepted c.requires.0 in
    let inner : 3 < kind_number c.kind-kind.result = search rules in
    let b = right_lower node c.kind-kind.ensures.number c.right.ensures inner in
    (omega arith, (inside_below node b, search rules))

pub from_children-terms-requires : goal.from_children-terms-requires
from_children-terms-requires t c =
    let inner : 3 < kind_number c.kind-kind.result = search rules in
    (ready_small (ready_node c.args.rule.now.accepted c.requires.0), inner, search rules)

pub store_row-requires : goal.store_row-requires
store_row-requires t c =
    (ready_small (ready_node c.args.rule.now.accepted c.requires.0), omega (arith, c.match-kind.auto.table))

pub returns : goal.returns
returns t c =
    let node = ready_node c.args.rule.now.accepted c.requires.0 in
    let kind = c.kind-kind.ensures.number in
    let left = c.left-left.ensures in
    elim c.match-kind.branch [
      | in-False w ↦
          let number : kind_number c.kind-kind.result < 4 = search rules in
          let leaf = of_leaf node kind (λ g. IsNode w.terms_leaf-terms.result g) left (w.terms_leaf-terms.ensures _) in
          rw w.terms-is (keeps_leaf _ _ (found_terms _ _ leaf.packed) (λ _. leaf.conflicts) (omega arith)
          (rw (w.table-is, w.terms-is) at c.store_row.ensures))
      | in-Next w ↦
          let sets = w.cover_of.ensures in
          let below = w.keep_terms-operand.ensures in
          let next : kind_number c.kind-kind.result ≡ 6 = rw w.in-Next.is refl in
          rw w.terms-is (keeps_next _ _
          (terms_next node kind left next (record { within = sets.within; over = sets.over }))
          (conflicts_next node kind left next below.conflicts) _ left below (omega arith)
          (rw (w.table-is, w.terms-is) at c.store_row.ensures))
      | in_default w ↦
          let inner : 3 < kind_number c.kind-kind.result = search rules in
          let a = w.keep_terms-a.ensures in
          let b = w.keep_terms-b.ensures in
          let right = w.right.ensures in
          let made = w.from_children-terms.ensures in
          rw w.terms-is (keeps_pair _ _
          (terms_pair node kind left right inner made a.value b.value)
          (conflicts_pair node kind left right inner made a.value b.value a.conflicts b.conflicts)
          _ left a _ right b (rw (w.table-is, w.terms-is) at c.store_row.ensures))
    ]
