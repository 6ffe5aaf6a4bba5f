-- What is shown of an automaton's records.
pub mod Shown
