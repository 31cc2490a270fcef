pub mod Grammar
pub mod Tree
pub mod Promise
pub mod Widths
pub mod Damaged
