-- Laws and theorems of the definitions of specs/.
pub mod Answered
