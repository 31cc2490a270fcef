pub mod Models
pub mod Inks
pub mod Spaces
pub mod Channels
