-- `normalform::code_of` meets its contract: a not has the code of its operand in the other sense. Assumes nothing.
use native.Mathlib.Omega.{arith}
use mathlib.Core.Path.{sym, ◌∙◌}
use Rattle.normalform.proofs.Fitting.{passed_node}
use Rattle.normalform.proofs.Arms.{not_inner}
use Rattle.normalform.proofs.Walking.{few_nodes, left_below}
use Rattle.normalform.proofs.Numbering.{not_code, own_code_lem}
use Rattle.normalform.proofs.+code_of.Goals as goal

pub code_of-requires : goal.code_of-requires
code_of-requires t c =
    let node = passed_node _ c.args.rule.now.accepted _ c.requires in
    let below = left_below node c.kind.result c.kind.ensures c.left.ensures (not_inner c.in-Not.is) in
    (omega arith, omega (arith, c.requires))

pub returns-in-Not : goal.returns-in-Not
returns-in-Not t c =
    let node = passed_node _ c.args.rule.now.accepted _ c.requires in (
      c.code_of.ensures.0
          ∙ rw c.left.ensures (sym (not_code node c.args.negated c.kind.result c.kind.ensures c.in-Not.is)),
      c.code_of.ensures.1,
    )

pub own_code-requires : goal.own_code-requires
own_code-requires t c = few_nodes _ c.args.rule.now.accepted _ c.requires

pub returns-in_default : goal.returns-in_default
returns-in_default t c =
    let node = passed_node _ c.args.rule.now.accepted _ c.requires in (
      c.own_code.ensures.0
          ∙ sym (own_code_lem node c.args.negated c.kind.result c.kind.ensures c.in_default.not-Not),
      c.own_code.ensures.1,
    )
