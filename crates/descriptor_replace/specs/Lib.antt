pub mod Replace
pub mod Promise
pub mod scaffold
