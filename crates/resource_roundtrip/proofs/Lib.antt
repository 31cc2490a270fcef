-- Laws of the definitions of specs/. The theorems that a user cares about stand in RoundTrip.
pub mod Fitting
pub mod Records
pub mod RoundTrip
