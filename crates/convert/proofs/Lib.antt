-- Laws that the proofs of the functions use, and their callers'.
pub mod Doubles
pub mod Nearest
pub mod Converting
