pub mod Answer
pub mod scaffold
