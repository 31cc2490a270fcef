pub mod ByBytes
pub mod Values
pub mod Typing
pub mod Extents
