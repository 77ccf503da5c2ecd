pub mod Starts
pub mod Rows
pub mod Table
