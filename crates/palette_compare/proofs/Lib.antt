pub mod Same
pub mod Laws
pub mod Both
pub mod Whole
pub mod Theorems
