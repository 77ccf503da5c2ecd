pub mod Limits
pub mod Refusal
pub mod Spaced
pub mod Text
pub mod inner
