pub mod Texts
pub mod Ways
pub mod Answers
