pub mod Texts
pub mod Rows
pub mod Measuring
pub mod Putting
pub mod Whole
pub mod Answers
pub mod Again
