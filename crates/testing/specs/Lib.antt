pub mod Putting
pub mod Words
