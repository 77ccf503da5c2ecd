pub mod PackedAt
pub mod Words
