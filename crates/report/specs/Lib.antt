-- The 32 bytes that tell a verdict and nothing else.
pub mod Report
