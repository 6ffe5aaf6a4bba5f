-- The image of an automaton, what a reader says of any bytes, and the calls write and read.
pub mod Image
pub mod Reader
pub mod Lookup
pub mod Calls
pub mod Memory
pub mod Parsed
