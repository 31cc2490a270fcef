-- Laws of the definitions of specs/. The theorems that a user cares about stand in RoundTrip.
pub mod Fine
pub mod Answers
pub mod Row
pub mod Raw
pub mod Inverse
pub mod Laws
pub mod Whole
pub mod Written
pub mod Faultless
pub mod RoundTrip
pub mod Placed
pub mod Cut
pub mod Turns
pub mod Refused
pub mod Total
