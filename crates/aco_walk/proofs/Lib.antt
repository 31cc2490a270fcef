-- The theorems are in Walked; the others lead to them and to the code.
pub mod Swatches
pub mod Walked
pub mod Stepping
