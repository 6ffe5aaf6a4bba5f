-- What the proofs of several functions, and of the crates above, cite. Assumes nothing.
pub mod Arms
pub mod Operands
pub mod Checks
pub mod Places
pub mod Untils
pub mod Accepted
pub mod Parents
pub mod Trees
pub mod Periodic
