pub mod Justified
pub mod Lettered
pub mod Deciding
pub mod Feeding
pub mod Pieces
pub mod Ending
pub mod Filling
