-- The second walk that makes the automaton of a rule, the call translate with the conflicts that it carries, and how the
-- second walk lies in memory.
pub mod Degeneralized
pub mod Translate
pub mod Conflicts
pub mod Memory
