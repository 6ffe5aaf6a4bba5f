-- What the proofs of several functions, and of the crates above, cite.
pub mod Exploring
pub mod Explored
pub mod Passed
pub mod Numbers
pub mod Products
pub mod Sifting
pub mod Meeting
pub mod Covering
pub mod Walking
pub mod Kept
