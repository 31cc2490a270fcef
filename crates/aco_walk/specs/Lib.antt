pub mod Walking
pub mod Answer
pub mod scaffold
