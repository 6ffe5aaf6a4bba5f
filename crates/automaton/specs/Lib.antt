-- The Büchi automaton, its runs, how large it may be, its records as bytes, and three tables that hold them.
pub mod Automaton
pub mod Limits
pub mod Records
pub mod Tables
