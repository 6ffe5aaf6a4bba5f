-- The points that a search meets, what a run makes of them, and what the code of the search to rest keeps in memory.
pub mod Queue
pub mod Points
pub mod Reached
pub mod Places
pub mod Marking
pub mod Filling
pub mod Searching
pub mod Levels
pub mod Fronts
pub mod Pairs
