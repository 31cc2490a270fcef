pub mod Grammar
pub mod Reading
pub mod Faults
pub mod Row
pub mod Widths
pub mod Damaged
pub mod Refusals
