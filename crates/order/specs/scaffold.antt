-- Definitions that only private contracts and proofs cite: nothing here must be believed.
pub mod Total
pub mod Heap
