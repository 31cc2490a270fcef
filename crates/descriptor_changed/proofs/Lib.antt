pub mod Nested
pub mod Singles
pub mod Undisturbed
