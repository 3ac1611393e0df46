pub mod Columns
pub mod Digits
pub mod LineBytes
pub mod Pages
pub mod Halts
pub mod Readings
pub mod Laws
pub mod Examples
