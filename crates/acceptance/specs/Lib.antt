-- Which untils of a rule a term fulfils, and how that lies in memory.
pub mod Acceptance
pub mod Memory
