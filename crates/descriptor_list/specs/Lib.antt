pub mod Listing
pub mod scaffold
