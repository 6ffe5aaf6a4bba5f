-- `normalform::write_codes` meets its contract: the bytes under the codes before c are written (`Emitting`).
-- Assumes nothing.
use native.Mathlib.Omega.{arith}
use mathlib.Core.Path.{◌∙◌}
use Rattle.normalform.proofs.Walking.{few_codes}
use Rattle.normalform.proofs.Writing.{emit_begins, code_room, emit_puts, emit_passes, emit_ends}
use Rattle.normalform.proofs.write_codes.Goals as goal
use Rattle.normalform.proofs.write_codes.Goals.{then-is_needed, else-is_needed}

pub loop-c-init : goal.loop-c-init
loop-c-init c = emit_begins _ _

pub code_bytes-requires : goal.code_bytes-requires
code_bytes-requires c = (
  (code_room c.args.rule.now.accepted c.requires _ _ c.loop-c.invariant c.loop-c-test.true c.if-is_needed.true).0,
  omega (arith, few_codes _ c.args.rule.now.accepted, c.requires.flags.size),
  c.requires.numbers_room,
)

pub bounds-numbers-c : goal.bounds-numbers-c
bounds-numbers-c c =
    omega (arith, few_codes _ c.args.rule.now.accepted, c.requires.flags.size, c.requires.numbers_room)

pub put_node-requires : goal.put_node-requires
put_node-requires c =
    let room =
    (code_room c.args.rule.now.accepted c.requires _ _ c.loop-c.invariant c.loop-c-test.true c.if-is_needed.true).1 in
    omega (arith, room, c.from.ensures)

pub loop-c-preserved : goal.loop-c-preserved
loop-c-preserved c = elim c.if-is_needed.branch [
  | then-is_needed w ↦
      emit_puts c.args.rule.now.accepted c.requires _ _ c.loop-c.invariant c.loop-c-test.true w.if-is_needed.true
      _ _ _ w.code_bytes.ensures w.from.ensures (w.form-is ∙ w.put_node.ensures)
  | else-is_needed w ↦
      rw w.form-is
      (emit_passes c.args.rule.now.accepted c.requires _ _ c.loop-c.invariant c.loop-c-test.true w.if-is_needed.false)
]

pub returns : goal.returns
returns c = emit_ends c.args.rule.now.accepted c.requires _ _ c.loop-c.invariant (omega arith)
