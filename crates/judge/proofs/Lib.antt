-- What the proofs of several functions cite, and why the search is right. Assumes nothing.
pub mod Decisions
pub mod Gathers
pub mod RunBits
pub mod Turns
pub mod Letters
pub mod Closure
pub mod Runs
pub mod Arrivals
pub mod Passes
pub mod HasAcceptingPass
pub mod PassStates
pub mod Verdicts
pub mod AtRest
pub mod Judgements
pub mod VerdictIff
pub mod Pairs
pub mod Skipped
