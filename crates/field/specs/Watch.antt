-- What the field unit watches (02, R-10), by the meaning of an automaton's runs.
use Rattle.std.specs.Prelude.{ℕ, zero, suc}
use Rattle.sets.specs.Sets.{In}
use Rattle.automaton.specs.Automaton.{Automaton, Step}

-- some run over the first i letters of w stands in state q: in an initial state before the first letter, then wherever
-- a step leads (R-10, sentence 2)
abbrev pub Current : (a : Automaton) (w : ℕ → ℕ) (i q : ℕ) → Type 0
Current a w zero q = In q a.initial
Current a w (suc i) q = (p : ℕ) × Current a w i p × Step a p (w i) q

-- the alarm is raised after i letters: there is no such state (R-10, sentence 3)
abbrev pub NoneCurrent : Automaton → (w : ℕ → ℕ) → (i : ℕ) → Type 0
NoneCurrent a w i = (q : ℕ) → Current a w i q → ⊥
