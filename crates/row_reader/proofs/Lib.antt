pub mod Chain
pub mod Columns
pub mod Numbers
pub mod One
pub mod Walk
pub mod Whole
