pub mod Scale
pub mod Convert
pub mod Refusals
pub mod Tray
pub mod Promise
