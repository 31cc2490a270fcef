-- Laws of the definitions of specs/, for this crate's proofs and its callers'.
pub mod Judging
pub mod Repeating
