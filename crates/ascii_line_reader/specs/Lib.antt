pub mod AsciiLine
pub mod inner
