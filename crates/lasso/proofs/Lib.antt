-- What is known of lassos, for the crates above. Assumes nothing.
pub mod Letters
pub mod Skipping
pub mod RemainingLetters
pub mod Checking
pub mod Positions
