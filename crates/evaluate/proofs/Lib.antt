-- The table of flags says where each node holds, and what the functions that fill it need.
pub mod Sweeps
pub mod Untils
pub mod Rows
pub mod Sweeping
pub mod Filling
