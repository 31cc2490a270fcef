-- Laws of the definitions of specs/, for this crate's proofs and its callers'.
pub mod Starting
pub mod Texts
pub mod Components
pub mod Sampling
pub mod Pages
