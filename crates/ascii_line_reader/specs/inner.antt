pub mod Columns
pub mod Frame
pub mod Answer
