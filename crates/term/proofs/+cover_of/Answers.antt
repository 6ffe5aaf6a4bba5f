-- `term::cover_of` meets its contract: an and, an or by the covers of its children, whose numbers are lower; every
-- other node by itself. Assumes nothing.
use mathlib.Core.Path.{refl}
use native.Mathlib.Omega.{arith}
use Prim.Native.Nat.{◌<◌}
use borrow.Author.Rules.{rules}
use Rattle.formula.specs.Kind.{kind_number}
use Rattle.term.specs.Term.{cover}
use Rattle.term.specs.Memory.{IsCover}
use Rattle.term.proofs.ByKind.{cover_own}
use Rattle.term.proofs.Sizes.{ready_node, ready_small, inside_below, left_lower, right_lower, of_leaf}
use Rattle.term.proofs.Descending.{found_cover, cover_pair}
use Rattle.term.proofs.+cover_of.Goals as goal

pub cover_of-a-requires : goal.cover_of-a-requires
cover_of-a-requires t c =
    let node = ready_node c.args.rule.now.accepted c.requires in
    let inner : 3 < kind_number c.kind-kind.result = search rules in
    let b = left_lower node c.kind-kind.ensures.number c.left.ensures inner in
    (omega arith, inside_below node b)

pub cover_of-b-requires : goal.cover_of-b-requires
cover_of-b-requires t c =
    let node = ready_node c.args.rule.now.accepted c.requires in
    let inner : 3 < kind_number c.kind-kind.result = search rules in
    let b = right_lower node c.kind-kind.ensures.number c.right.ensures inner in
    (omega arith, inside_below node b)

pub from_children-requires : goal.from_children-requires
from_children-requires t c =
    let inner : 3 < kind_number c.kind-kind.result = search rules in
    let low : kind_number c.kind-kind.result < 6 = search rules in
    (ready_small (ready_node c.args.rule.now.accepted c.requires), inner, λ e. omega arith)

pub owe-requires : goal.owe-requires
owe-requires t c = ready_small (ready_node c.args.rule.now.accepted c.requires)

pub returns-in-False : goal.returns-in-False
unfolding cover
returns-in-False t c =
    found_cover _ _
    (of_leaf (ready_node c.args.rule.now.accepted c.requires) c.kind-kind.ensures.number
    (λ f. IsCover c.none.result (cover f)) refl (λ f g. rw c.in-False.is c.none.ensures.packed))

pub returns-in-True : goal.returns-in-True
unfolding cover
returns-in-True t c =
    found_cover _ _
    (of_leaf (ready_node c.args.rule.now.accepted c.requires) c.kind-kind.ensures.number
    (λ f. IsCover c.one.result (cover f)) refl (λ f g. rw c.in-True.is c.one.ensures.packed))

pub returns-in-And : goal.returns-in-And
returns-in-And t c =
    let inner : 3 < kind_number c.kind-kind.result = search rules in
    let low : kind_number c.kind-kind.result < 6 = search rules in
    cover_pair (ready_node c.args.rule.now.accepted c.requires) c.kind-kind.ensures.number c.left.ensures
    c.right.ensures inner c.from_children.ensures low c.cover_of-a.ensures c.cover_of-b.ensures

pub returns-in_default : goal.returns-in_default
returns-in_default t c =
    found_cover _ _
    (of_leaf (ready_node c.args.rule.now.accepted c.requires) c.kind-kind.ensures.number
    (λ f. IsCover c.one-in_default.result (cover f)) refl
    (λ f g.
    rw (
      cover_own _ _ f g c.kind-kind.result (search rules) (search rules) (search rules) (search rules)
          c.kind-kind.ensures.at_most,
      ← c.owe.ensures,
    ) c.one-in_default.ensures.packed))
