pub mod Bracket
pub mod Checking
