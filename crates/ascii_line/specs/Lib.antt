pub mod Line
pub mod Parts
