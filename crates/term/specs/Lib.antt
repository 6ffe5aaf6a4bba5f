-- Covers and terms of a formula's nodes, the rules that have too many of them, and how terms lie in memory.
pub mod Limits
pub mod Term
pub mod Size
pub mod Memory
