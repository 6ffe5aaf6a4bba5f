-- Sets of states: in lent bytes, and as tests that tell of each state whether it is in.
use Rattle.std.specs.Prelude.{ℕ, zero, suc, ◌+◌, ◌*◌, ◌/◌, ◌%◌, List, [], ◌∷◌, ◌++◌, Bool, cond, not, ◌&&◌, get_or}
use Rattle.std.specs.Prelude.{length, eqb}
use Rattle.sets.specs.Bits.{has}
use Rattle.sets.specs.Sets.{any, any_below}
use Rattle.automaton.specs.Automaton.{Transition, Automaton, no_state, reads}
use Rattle.automaton.specs.Limits.{max_states}

-- how many bytes a set has: eight states in each, of as many as an automaton may have
abbrev pub set_bytes : ℕ
set_bytes = max_states / 8

-- whether state q is in the set: bit q % 8 of byte q / 8
abbrev pub in_set : List ℕ → ℕ → Bool
in_set bytes q = has (get_or bytes (q / 8) 0) (q % 8)

-- n bits from state i on, the lowest state in the lowest bit
unfoldable pub bits_from : (ℕ → Bool) → (i n : ℕ) → ℕ
bits_from set i zero = 0
bits_from set i (suc n) = cond (set i) 1 0 + 2 * bits_from set (suc i) n

-- the first n bytes of a set
unfoldable pub bytes_up_to : (ℕ → Bool) → (n : ℕ) → List ℕ
bytes_up_to set zero = []
bytes_up_to set (suc n) = bytes_up_to set n ++ (bits_from set (8 * n) 8 ∷ [])

-- its bytes
abbrev pub packed : (ℕ → Bool) → List ℕ
packed set = bytes_up_to set set_bytes

-- the set before the first letter: the initial states (R-10, sentence 2)
unfoldable pub begun : Automaton → ℕ → Bool
begun a q = any (eqb q) a.initial

-- a transition can be taken at letter x and leads to q
abbrev pub leads_to : (x q : ℕ) → Transition → Bool
leads_to x q t = reads t x && eqb q t.target

-- state p is in the set, and a step from it at letter x leads to q
unfoldable pub moves_to : Automaton → (set : ℕ → Bool) (x q p : ℕ) → Bool
moves_to a set x q p = set p && any (leads_to x q) (get_or a.states p no_state).transitions

-- the set after letter x: the states to which a step from a state of the set leads. What the set says of numbers that
-- are no states does not count (R-10, sentence 2)
unfoldable pub moved : Automaton → (set : ℕ → Bool) (x : ℕ) → ℕ → Bool
moved a set x q = any_below (moves_to a set x q) (length a.states)

-- no state is in the set: the alarm is raised (R-10, sentence 3)
unfoldable pub is_empty : Automaton → (ℕ → Bool) → Bool
is_empty a set = not (any_below set (length a.states))
