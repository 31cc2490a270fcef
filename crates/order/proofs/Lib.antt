pub mod Orders
pub mod Lists
pub mod Runs
pub mod Heaps
