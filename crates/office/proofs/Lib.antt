-- Lemmas for the calls for C.
pub mod Packed
pub mod Refusals
pub mod Unpacking
pub mod NoConflicts
pub mod Sent
