pub mod Runs
pub mod Parted
pub mod Columns
pub mod inner
