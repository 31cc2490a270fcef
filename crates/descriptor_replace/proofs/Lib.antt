pub mod Accepted
pub mod Values
pub mod Rows
pub mod Calls
pub mod Replaced
pub mod Said
