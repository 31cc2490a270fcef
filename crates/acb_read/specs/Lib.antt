pub mod Table
pub mod Answer
pub mod Walked
pub mod scaffold
