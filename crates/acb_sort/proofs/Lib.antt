pub mod Sorting
pub mod Inserting
