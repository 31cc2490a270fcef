pub mod Texts
pub mod Components
pub mod Pages
pub mod Answer
pub mod Nearest
pub mod Promise
