-- `evaluate::fill` meets its contract: node by node. Assumes nothing.
use native.Mathlib.Omega.{arith}
use Rattle.evaluate.proofs.fill.Goals as goal

pub loop-k-init : goal.loop-k-init
loop-k-init c = record { rows = λ j l. absurd (omega arith) }

pub fill_node-requires : goal.fill_node-requires
fill_node-requires c = (
  omega arith,
  record {
    some = c.requires.some;
    few = c.requires.few;
    places = omega (arith, c.requires.places, c.loop-k.auto.table);
  },
  c.loop-k.invariant,
)
