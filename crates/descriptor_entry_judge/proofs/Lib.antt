pub mod Judging
pub mod Heads
