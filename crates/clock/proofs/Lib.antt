pub mod Quotients
pub mod Places
pub mod Starts
pub mod Calendar
pub mod Dates
pub mod Stamps
pub mod Cases
