-- `field::moved_set` meets its contract: in each turn joins what one state leads to, at first nothing. Assumes nothing.
use Prim.Native.Nat.{ℕ}
use mathlib.Core.Path.{◌≡◌}
use mathlib.Core.List.{List}
use lib.ListN.{replicate}
use Rattle.image.specs.Lookup.{records_at}
use Rattle.field.specs.Memory.{Added}
use Rattle.field.specs.Sets.{set_bytes}
use Rattle.field.proofs.Adding.{reached}
use Rattle.field.proofs.moved_set.Given as goal

-- the loop stands at state p, whose records begin at byte `at`
pub record Stepping (image set : List ℕ) (letter : ℕ) (next : List ℕ) (at p : ℕ) : Type 0 where
  pub here : at ≡ records_at image p
  pub added : Added (replicate set_bytes 0) next (reached image set letter p)

abbrev pub invariant-loop-p : goal.invariant-loop-p
invariant-loop-p l = Stepping l.image.bytes.now l.set l.letter l.next l.at l.p
