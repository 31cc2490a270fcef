-- Laws of the definitions of specs/.
pub mod Records
pub mod Walking
pub mod Answers
