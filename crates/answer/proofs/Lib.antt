-- What is known of answers, for the crates above. Assumes nothing.
pub mod Lowest
pub mod Results
pub mod Storing
pub mod Zeros
pub mod Filling
pub mod Numbers
