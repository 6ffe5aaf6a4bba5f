-- Two rules merged into one.
pub mod Merge
