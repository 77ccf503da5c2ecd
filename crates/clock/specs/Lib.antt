pub mod Start
pub mod Date
pub mod Stamp
pub mod inner
