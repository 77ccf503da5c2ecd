pub mod Bytes
pub mod Record
pub mod Promise
pub mod inner
