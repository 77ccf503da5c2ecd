pub mod Versions
pub mod Row
pub mod House
pub mod inner
