-- What the proofs of several functions, and of the crates above, cite.
pub mod Carries
pub mod Packing
pub mod Rising
pub mod ByKind
pub mod Sizes
pub mod Bounds
pub mod Reached
pub mod Descending
pub mod Keeping
pub mod Unpacking
pub mod Rows
