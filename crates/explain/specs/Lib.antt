pub mod Explain
pub mod Promise
pub mod inner
