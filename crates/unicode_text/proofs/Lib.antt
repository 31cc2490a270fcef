-- Laws of the definitions of specs/, for this crate's proofs and its callers', and the theorems.
pub mod Laws
pub mod Short
pub mod Pieces
pub mod Theorems
