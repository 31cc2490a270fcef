pub mod Table
pub mod scaffold
