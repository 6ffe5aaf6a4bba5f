-- The demands as theorems.
pub mod Rows
pub mod RuleImage
pub mod Verdict
pub mod SameVerdict
pub mod TwoCalls
pub mod Deciding
pub mod Decided
pub mod ThreeCalls
pub mod MergedVerdict
pub mod FieldUnit
pub mod FieldRows
pub mod OneVerdict
