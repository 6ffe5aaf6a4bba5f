-- The call judge, its verdict as a value, and the bits by which the code searches.
pub mod Limits
pub mod Search
pub mod Judge
pub mod Memory
