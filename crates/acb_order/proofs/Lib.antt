pub mod Names
pub mod Index
pub mod Files
pub mod Theorems
