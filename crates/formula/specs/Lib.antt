-- What a rule's bytes are, which are refused, the formula that they encode, and when a lasso satisfies it.
pub mod Limits
pub mod Rule
pub mod Kind
pub mod Parsed
pub mod Formula
pub mod Satisfaction
