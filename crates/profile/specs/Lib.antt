-- The field unit's profile (02, R-10): which rules it takes, and the call translate for them.
pub mod Profile
pub mod Memory
