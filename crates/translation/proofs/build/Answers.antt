-- `translation::build` meets its contract: a refusal sets the tables to zero.
-- Assumes nothing.
use mathlib.Core.Path.{sym, ◌∙◌}
use Rattle.translation.proofs.Translating.{builds_done, builds_none}
use Rattle.translation.proofs.build.Goals as goal

pub returns-then-is_err : goal.returns-then-is_err
returns-then-is_err c =
    builds_none _ _ _ _ _ _ _ c.fill-built.result c.fill-built.ensures (sym c.is_err.ensures.value ∙ c.if-is_err.true)
    c.zero.ensures c.zero-then-is_err.ensures c.zero-then-is_err-2.ensures
    c.fill-built.auto.states c.fill-built.auto.transitions c.fill-built.auto.initial

pub returns-else-is_err : goal.returns-else-is_err
returns-else-is_err c =
    builds_done _ _ _ _ _ _ _ c.fill-built.result c.fill-built.ensures (sym c.is_err.ensures.value ∙ c.if-is_err.false)
