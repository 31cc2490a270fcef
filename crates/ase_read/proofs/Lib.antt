-- The laws of filling a table.
pub mod Blocks
pub mod Filling
pub mod Answers
