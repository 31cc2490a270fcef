-- The laws of filling a table.
pub mod Filling
pub mod Answers
