pub mod Names
pub mod Index
pub mod Search
pub mod Places
pub mod scaffold
