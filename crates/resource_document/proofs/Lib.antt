-- Laws that the proofs of the functions use; Inside has what a user cares about.
pub mod Finding
pub mod Inside
