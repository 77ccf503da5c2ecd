pub mod Rows
pub mod Columns
