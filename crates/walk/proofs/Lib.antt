-- The law of a walk's calls, and where names lie.
pub mod Calls
pub mod Turns
pub mod Names
