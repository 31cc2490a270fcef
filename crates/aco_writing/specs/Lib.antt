pub mod Writing
pub mod Refusals
