-- Rules as growers write them, their negation normal form, and the call that makes it.
pub mod Written
pub mod NormalForm
pub mod Normalize
pub mod Memory
pub mod Parsed
