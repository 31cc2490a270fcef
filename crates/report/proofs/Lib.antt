pub mod Laws
pub mod Counting
pub mod Files
pub mod Theorems
