pub mod Answer
pub mod HexTable
pub mod Pairs
pub mod Kept
