pub mod Grammar
pub mod Reading
pub mod Bytes
pub mod scaffold
