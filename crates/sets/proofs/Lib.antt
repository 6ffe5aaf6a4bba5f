-- What the proofs of several functions cite.
pub mod Members
pub mod Bits
pub mod Lists
pub mod Inserts
pub mod Rising
pub mod Conflicts
pub mod Seeking
pub mod Stores
pub mod Folds
