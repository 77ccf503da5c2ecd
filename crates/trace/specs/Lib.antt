pub mod Trace
pub mod House
pub mod Promise
pub mod inner
