-- When two lassos are one word, and what comparing them says. Assumes nothing.
pub mod Agreement
pub mod Periods
pub mod Exactly
