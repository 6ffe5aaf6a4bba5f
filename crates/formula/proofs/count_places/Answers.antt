-- `formula::count_places` meets its contract: the counts are the places of the nodes passed (`Counting`), and those are
-- too few to overflow. Assumes nothing.
use native.Mathlib.Omega.{arith}
use Rattle.formula.proofs.Places.{count_begins, left_fits, right_fits, count_steps}
use Rattle.formula.proofs.count_places.Goals as goal

pub loop-i-init : goal.loop-i-init
loop-i-init c = count_begins _

pub count_child-requires : goal.count_child-requires
count_child-requires c =
    left_fits _ _ c.requires.1 c.requires.2 _ (omega arith) c.loop-i.invariant
    c.kind_of-kind.ensures c.left_operand.ensures c.left_of.ensures

pub count_child-requires-in-loop-i : goal.count_child-requires-in-loop-i
count_child-requires-in-loop-i c =
    let kind = c.kind_of-kind.ensures in
    let left = c.left_operand.ensures in
    let l = c.left_of.ensures in
    right_fits _ _ c.requires.1 c.requires.2 _ (omega arith) c.loop-i.invariant kind left l
    c.count_child.new.counts c.count_child.auto.counts c.count_child.ensures
    c.right_operand.ensures c.right_of.ensures

pub loop-i-preserved : goal.loop-i-preserved
loop-i-preserved c =
    let kind = c.kind_of-kind.ensures in
    let left = c.left_operand.ensures in
    let l = c.left_of.ensures in
    let right = c.right_operand.ensures in
    let r = c.right_of.ensures in
    count_steps _ _ c.requires.1 c.requires.2 _ (omega arith) c.loop-i.invariant kind left l
    c.count_child.new.counts c.count_child.auto.counts c.count_child.ensures right r
    c.count_child-in-loop-i.new.counts c.count_child-in-loop-i.auto.counts c.count_child-in-loop-i.ensures
