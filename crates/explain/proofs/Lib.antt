-- What is named of a broken rule is so by the meaning of rules, and what the functions need of the searches.
pub mod Searches
pub mod Clauses
pub mod Breaks
pub mod Named
pub mod Parts
pub mod Naming
pub mod Looking
pub mod Telling
pub mod Calling
pub mod Answered
pub mod ByMeaning
pub mod Worked
