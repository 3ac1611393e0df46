pub mod Settings
pub mod Sheets
pub mod Halts
