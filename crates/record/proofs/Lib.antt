pub mod Shift
pub mod Bytes
pub mod Frames
pub mod Words
pub mod OneRecord
pub mod Refusals
pub mod Promises
