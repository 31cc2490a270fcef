-- Definitions that contracts between sister crates and proofs cite: nothing here must be believed.
pub mod Parts
