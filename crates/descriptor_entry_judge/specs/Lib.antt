pub mod Judging
pub mod scaffold
