-- What is named of a broken rule, the call explain, and the searches by which it is found.
pub mod Explain
pub mod Meaning
pub mod Call
pub mod Memory
pub mod Satisfied
