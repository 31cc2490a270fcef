pub mod Grammar
pub mod Reading
pub mod Row
pub mod Faults
pub mod Widths
pub mod Refusals
pub mod Damaged
