pub mod Chunks
pub mod Promise
