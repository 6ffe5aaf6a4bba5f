-- What the proofs of several functions, and of the crates above, cite.
pub mod Gathering
pub mod Tests
pub mod Bits
