-- Laws that the proofs of the functions use.
pub mod Laws
pub mod Loops
pub mod Scalars
pub mod Answers
