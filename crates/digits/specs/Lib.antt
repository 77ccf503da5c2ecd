pub mod Digits
pub mod House
pub mod inner
