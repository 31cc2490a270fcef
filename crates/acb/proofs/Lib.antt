-- Laws of the definitions of specs/. The theorems that a user cares about stand in RoundTrip.
pub mod Answers
pub mod Row
pub mod Laws
pub mod Whole
pub mod Turns
pub mod Cut
pub mod Refused
pub mod Total
pub mod Faultless
pub mod RoundTrip
pub mod Placed
