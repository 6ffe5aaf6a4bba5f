-- What a report tells, and that it tells nothing else. Assumes nothing.
pub mod SameReport
