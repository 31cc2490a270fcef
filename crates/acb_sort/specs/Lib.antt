pub mod Keys
pub mod scaffold
