pub mod Grammar
pub mod Reading
pub mod Rows
pub mod Widths
pub mod Damaged
pub mod Refusals
pub mod Tiling
