-- Laws that the proofs of the functions use.
pub mod Laws
pub mod Samples
pub mod Channels
