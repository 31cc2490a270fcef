pub mod Answer
pub mod Fault
