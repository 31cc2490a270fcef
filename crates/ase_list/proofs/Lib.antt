-- What leads from a walk's calls to the lines of a listing, and small listings.
pub mod Listed
pub mod Small
