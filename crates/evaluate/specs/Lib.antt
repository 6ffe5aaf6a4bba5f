-- Where each node of a rule holds on a lasso, as a table of flags, and how that table lies in memory.
pub mod Truth
pub mod Memory
