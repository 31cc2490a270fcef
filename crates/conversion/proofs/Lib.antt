-- Laws of the definitions of specs/, for this crate's proofs and its callers', and the theorems.
pub mod Rounding
pub mod Return
pub mod Whole
pub mod Theorems
pub mod Refused
pub mod Runs
