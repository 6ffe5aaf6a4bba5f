-- `evaluate::fill_node` meets its contract: the row of a leaf, of a pair, or of two rounds. Assumes nothing.
use native.Mathlib.Omega.{arith}
use Rattle.answer.proofs.Lowest.{passes_fine}
use Rattle.formula.specs.Kind.{kind_number}
use Rattle.formula.proofs.Arms.{leaf_number, pair_number, round_number}
use Rattle.evaluate.proofs.Filling.{AtNode, few, proposition_known, left_low, right_low, leaf_done, pair_done}
use Rattle.evaluate.proofs.Filling.{round_done}
use Rattle.evaluate.proofs.fill_node.Goals as goal
use Rattle.evaluate.proofs.fill_node.Goals.{After-right}

node : (c : After-right)
    → AtNode c.args.rule.now.bytes.now c.args.lasso.now.stem.now c.args.lasso.now.cycle.now
    c.args.table.now c.args.k (kind_number c.kind-kind.result) c.left-left.result
node c = record {
  fine_rule = passes_fine _ c.args.rule.now.accepted;
  inside = c.requires.0;
  is_kind = c.kind-kind.ensures.number;
  is_left = c.left-left.ensures;
  room = c.requires.1;
  done = c.requires.2;
}

pub fill_leaf-requires : goal.fill_leaf-requires
fill_leaf-requires c =
    let n = node (goal.at.fill_leaf-requires c).After-right in (
      proposition_known n (leaf_number c.in-False.is),
      omega (arith, few n, c.requires.1.few, c.requires.1.places),
    )

pub returns-in-False : goal.returns-in-False
returns-in-False c =
    leaf_done (node (goal.at.returns-in-False c).After-right) _ (leaf_number c.in-False.is) c.fill_leaf.ensures

pub fill_pair-requires : goal.fill_pair-requires
fill_pair-requires c =
    let n = node (goal.at.fill_pair-requires c).After-right in
    let inner = (pair_number c.in-And.is).0 in
    let l = left_low n inner in
    let r = right_low n c.right.ensures inner in
    let m = few n in
    let room = c.requires.1 in
    (room.some, omega (arith, room.few), omega (arith, room.few), omega (arith, room.few, room.places))

pub returns-in-And : goal.returns-in-And
returns-in-And c =
    let (inner, low) = pair_number c.in-And.is in
    pair_done (node (goal.at.returns-in-And c).After-right) c.right.ensures _ inner low c.fill_pair.ensures

pub fill_round-requires : goal.fill_round-requires
fill_round-requires c =
    let n = node (goal.at.fill_round-requires c).After-right in
    let d = c.in_default in
    let high =
    round_number _ d.not-False d.not-True d.not-Proposition d.not-NegatedProposition d.not-And d.not-Or d.not-Next in
    let l = left_low n (omega arith) in
    let r = right_low n c.right.ensures (omega arith) in
    let m = few n in
    let room = c.requires.1 in
    (room.some, omega (arith, room.few), omega (arith, room.few), omega (arith, room.few, room.places))

pub returns-in_default : goal.returns-in_default
returns-in_default c =
    let d = c.in_default in
    round_done (node (goal.at.returns-in_default c).After-right) c.right.ensures _
    (round_number _ d.not-False d.not-True d.not-Proposition d.not-NegatedProposition d.not-And d.not-Or d.not-Next)
    c.fill_round.ensures
