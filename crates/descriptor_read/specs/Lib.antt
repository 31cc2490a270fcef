pub mod Values
pub mod Typed
pub mod Kinds
pub mod scaffold
