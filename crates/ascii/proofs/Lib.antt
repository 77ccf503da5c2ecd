pub mod Channels
pub mod Exporting
pub mod Measuring
pub mod Keeping
pub mod Putting
pub mod Answers
