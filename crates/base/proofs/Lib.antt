pub mod Answers
pub mod Lists
pub mod Numbers
pub mod Spaced
pub mod Tables
pub mod Tests
