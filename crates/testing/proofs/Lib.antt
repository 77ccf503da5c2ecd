pub mod Cutting
pub mod One
pub mod Putting
pub mod Wrong
