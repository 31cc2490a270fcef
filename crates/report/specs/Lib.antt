pub mod Report
pub mod Answer
pub mod Promise
pub mod scaffold
