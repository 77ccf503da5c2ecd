pub mod ByteDigits
pub mod ByteTexts
pub mod House
pub mod HexTables
pub mod Readers
pub mod Strings
pub mod Theorems
pub mod Writers
