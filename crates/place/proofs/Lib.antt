-- Where a letter that remains stands: laws of the definitions, and the search for it.
pub mod Standing
pub mod Placed
