pub mod Checking
pub mod Numbering
pub mod Cuts
pub mod Choosing
