-- Theorems on the sentences.
pub mod Laws
pub mod Theorems
