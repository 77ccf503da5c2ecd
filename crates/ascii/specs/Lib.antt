pub mod Promise
pub mod inner
