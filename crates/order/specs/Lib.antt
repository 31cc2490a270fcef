pub mod Order
pub mod Sorted
pub mod Run
pub mod scaffold
