pub mod Lists
pub mod Packing
pub mod Records
pub mod StepBack
pub mod Marks
pub mod Through
pub mod Ahead
