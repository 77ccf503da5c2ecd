pub mod Answers
pub mod Begun
pub mod Fields
pub mod Refused
pub mod Theorems
pub mod Windows
