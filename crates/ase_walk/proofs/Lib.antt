-- The theorems are in Walked; the others lead to them and to the code.
pub mod Blocks
pub mod Walked
pub mod Stepping
