-- What the proofs of several functions, and of the crates above, cite.
pub mod Undominated
pub mod Packed
