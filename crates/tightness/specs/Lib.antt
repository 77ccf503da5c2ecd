pub mod Programs
pub mod Wrong
pub mod Tight
