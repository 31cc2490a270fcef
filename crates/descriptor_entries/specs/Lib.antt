pub mod Taken
pub mod Answered
pub mod Promise
pub mod scaffold
