-- What the proofs of several functions, and of the crates above, cite.
pub mod Levels
pub mod Numbering
pub mod Codes
pub mod Within
pub mod Mapped
pub mod FirstWalk
pub mod Meeting
pub mod Pairing
pub mod Filling
pub mod Writing
pub mod SecondWalk
pub mod Translating
