-- A value or a refusal, the lowest refusal, and the bytes that calls are lent.
pub mod Result
pub mod Bytes
pub mod Buffer
