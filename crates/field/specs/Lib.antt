-- The field unit (02, R-10): the states that some run may be in, the alarm when there is none, and the calls that keep
-- them in a lent set.
pub mod Watch
pub mod Sets
pub mod Calls
pub mod Memory
