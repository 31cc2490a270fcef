-- Laws of the definitions of specs/. The theorems that a user cares about stand in Refused, RoundTrip, Placed and Tiled.
pub mod Laws
pub mod Lies
pub mod Placed
pub mod Whole
pub mod Turns
pub mod Refused
pub mod Total
pub mod RoundTrip
pub mod Tiled
