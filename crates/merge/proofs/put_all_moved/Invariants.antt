-- `merge::put_all_moved` meets its contract: the nodes before i are stored behind the first up nodes of the buffer.
-- Assumes nothing.
use mathlib.Core.Path.{◌≡◌}
use mathlib.Core.List.{◌++◌}
use Prim.Native.Nat.{◌+◌, ◌*◌}
use lib.ListN.{take}
use Rattle.merge.specs.Merge.{moved_nodes}
use Rattle.merge.proofs.put_all_moved.Given as goal

abbrev pub invariant-loop-i : goal.invariant-loop-i
invariant-loop-i l =
    take ((l.up + l.i) * 3) l.merged ≡ take (l.up * 3) l.initial.merged ++ moved_nodes l.rule l.up l.i
