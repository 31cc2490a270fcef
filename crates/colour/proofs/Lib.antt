-- Laws of the definitions of specs/, for this crate's proofs and its callers'.
pub mod Laws
pub mod Unit
pub mod Models
pub mod Kept
pub mod Inks
