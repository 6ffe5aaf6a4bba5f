-- Whether two lassos are one word.
pub mod Words
