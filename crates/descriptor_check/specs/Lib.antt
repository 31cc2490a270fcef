pub mod Check
pub mod scaffold
