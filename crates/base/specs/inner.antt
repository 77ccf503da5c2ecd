pub mod Answers
pub mod Decides
pub mod Wrote
