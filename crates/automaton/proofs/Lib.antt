-- What is known of automata, their passes and their records, for the crates above. Assumes nothing.
pub mod Passes
pub mod InRange
pub mod WellFormed
pub mod Records
pub mod Room
pub mod LetterTests
