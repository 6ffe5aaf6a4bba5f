-- What is known of a merged rule, for the crates above. Assumes nothing.
pub mod Moving
pub mod Copied
pub mod Conjoined
pub mod Both
pub mod Merging
pub mod Translatable
