-- The points that judging takes breadth first, until one is at rest.
pub mod Search
pub mod Rest
pub mod Memory
