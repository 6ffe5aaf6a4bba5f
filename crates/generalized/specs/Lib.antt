-- The first walk: the generalized automaton of a rule, and how it lies in memory.
pub mod Limits
pub mod Explore
pub mod Generalized
pub mod Memory
