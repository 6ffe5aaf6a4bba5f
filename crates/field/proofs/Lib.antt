-- What the functions need of sets in bytes, and what the unit watches. Assumes nothing.
pub mod Packing
pub mod Adding
pub mod Emptiness
pub mod Calling
pub mod Unit
