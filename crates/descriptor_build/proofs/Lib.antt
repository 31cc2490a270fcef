pub mod Puts
pub mod Loops
pub mod Built
