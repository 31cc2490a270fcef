pub mod Reading
pub mod Tiles
pub mod Refusals
pub mod scaffold
