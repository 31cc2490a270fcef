pub mod Answers
pub mod Held
pub mod Shaped
pub mod Filled
pub mod Headed
pub mod Members
pub mod Built
