-- Laws of the definitions of specs/.
pub mod Walking
pub mod Naming
pub mod Listed
pub mod Units
