-- Laws of the definitions of specs/. The theorems that a user cares about stand in Refused and RoundTrip.
pub mod Answers
pub mod Tables
pub mod Payload
pub mod Turns
pub mod Laws
pub mod Blocks
pub mod Cut
pub mod Lengths
pub mod Refused
pub mod Contents
pub mod Total
pub mod Whole
pub mod Faultless
pub mod Written
pub mod RoundTrip
pub mod Placed
pub mod Row
