pub mod Turns
pub mod Held
pub mod Items
pub mod Cutting
pub mod Small
