pub mod Entry
pub mod BackAfter
