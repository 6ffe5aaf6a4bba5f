-- The bytes of a slice in front, lent as a part of it, and what they mark. Assumes nothing.
use Prim.Native.Nat.{ℕ, suc, ◌+◌, ◌*◌, ◌<◌, ◌≤◌}
use mathlib.Core.Path.{◌≡◌, sym, ◌∙◌}
use mathlib.Core.List.{List, ◌++◌}
use native.Mathlib.Omega.{arith}
use lib.ListN.{get_or, length, get_or-append}
use Rattle.automaton.specs.Limits.{max_states}
use Rattle.rest.specs.Search.{Point}
use Rattle.rest.specs.Memory.{Marked}

-- what is behind the bytes of a position does not count
pub front_marked : {front : List ℕ} {met : List Point} (behind : List ℕ) (p : ℕ) → max_states * suc p ≤ length front
    → Marked p front met → Marked p (front ++ behind) met
front_marked {front} behind p row m = record {
  marked = λ q lt h. same q lt ∙ m.marked q lt h;
  only = λ q lt e. m.only q lt (sym (same q lt) ∙ e);
}
  where
    same : (q : ℕ) → q < max_states
        → get_or (front ++ behind) (max_states * p + q) 0 ≡ get_or front (max_states * p + q) 0
    same q lt = get_or-append front behind 0 (max_states * p + q) (omega arith)
