pub mod Lines
pub mod Scans
pub mod Theorems
