pub mod Compare
pub mod Answer
pub mod Promise
pub mod scaffold
