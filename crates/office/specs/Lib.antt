-- How the answers of the calls are packed for C, and what is stored beside them.
pub mod Packing
pub mod Sending
