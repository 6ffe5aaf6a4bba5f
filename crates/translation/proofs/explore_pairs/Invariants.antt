-- `translation::explore_pairs` meets its contract: the walk from a pair on comes to what the whole walk does, and the
-- rows before it are written (`Pairing`). Assumes nothing.
use Prim.Native.Nat.{◌-◌}
use Rattle.automaton.specs.Limits.{max_states}
use Rattle.generalized.specs.Explore.{walked}
use Rattle.translation.specs.Memory.{code_walk}
use Rattle.translation.proofs.Pairing.{Pairing}
use Rattle.translation.proofs.explore_pairs.Given as goal

abbrev pub invariant-loop-code : goal.invariant-loop-code
invariant-loop-code l =
    Pairing l.rows.ends.now l.rows.transitions.now l.rows.last
    (walked (code_walk l.rows.ends.now l.rows.transitions.now l.rows.last) l.initial.pairs) l.initial.table l.pairs
    l.table l.written l.pair

abbrev pub decreases-loop-code : goal.decreases-loop-code
decreases-loop-code l = max_states - l.pair
