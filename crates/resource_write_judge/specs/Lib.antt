pub mod Parts
pub mod scaffold
