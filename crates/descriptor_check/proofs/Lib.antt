pub mod Decided
pub mod Begun
pub mod Turns
pub mod Checking
