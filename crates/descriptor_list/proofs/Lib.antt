-- What leads from a table's numbers to the lines of a listing, and small listings.
pub mod Listed
pub mod Small
