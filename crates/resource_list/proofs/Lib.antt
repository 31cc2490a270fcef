-- What leads from blocks at their places to the lines of a listing, how much of an input is enough, and small listings.
pub mod Listed
pub mod Enough
pub mod Small
