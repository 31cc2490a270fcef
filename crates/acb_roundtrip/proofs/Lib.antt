-- The theorems are in RoundTrip; the others lead to them.
pub mod Fitting
pub mod Records
pub mod Back
pub mod Spare
pub mod RoundTrip
