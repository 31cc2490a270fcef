pub mod Steps
pub mod Alike
pub mod Counting
pub mod Items
pub mod Whole
