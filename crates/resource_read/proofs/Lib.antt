-- Laws that the proofs of the functions use.
pub mod Trusted
pub mod Going
pub mod Answers
