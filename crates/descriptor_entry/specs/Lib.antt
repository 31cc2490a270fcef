pub mod Pieces
pub mod Shapes
pub mod Entries
pub mod Promise
pub mod Refusals
