-- Lassos: their letters, those that remain, and refusals 8, 9 and 28.
pub mod Lasso
