-- Laws and theorems of the definitions of specs/.
pub mod After
pub mod Answered
pub mod Records
