-- `acceptance::untils_of` meets its contract: the untils among the nodes passed are gathered (`Gathering`).
-- Assumes nothing.
use Rattle.std.proofs.Common.{arith, refl, rules, ◌≡◌}
use Rattle.formula.specs.Rule.{kind_at}
use Rattle.acceptance.proofs.Gathering.{gather_begins, gather_takes, gather_passes, gather_fits}
use Rattle.acceptance.proofs.untils_of.Goals as goal
use Rattle.acceptance.proofs.untils_of.Goals.{then-eq, else-eq}

pub loop-i-init : goal.loop-i-init
loop-i-init c = gather_begins _ _ refl

pub loop-i-preserved : goal.loop-i-preserved
loop-i-preserved c =
    let inv = c.loop-i.invariant in
    elim c.if-eq.branch [
      | then-eq w ↦
          let until : kind_at c.args.rule.now.bytes.now c.loop-i.i ≡ 7 = search rules in
          rw (w.nodes-is, w.count-is)
          (gather_takes _ _ _ _ inv (gather_fits _ _ _ _ inv (omega arith) c.args.rule.now.accepted until) until)
      | else-eq w ↦
          let none : kind_at c.args.rule.now.bytes.now c.loop-i.i ≡ 7 → ⊥ = search rules in
          rw (w.nodes-is, w.count-is) (gather_passes _ _ _ _ inv none)
    ]
