pub mod Asking
pub mod Deciding
pub mod Stepping
pub mod Values
pub mod Soundness
pub mod Gathering
