pub mod Find
pub mod Promise
pub mod scaffold
