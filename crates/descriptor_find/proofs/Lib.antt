pub mod Children
pub mod Keys
pub mod Answers
pub mod Theorems
