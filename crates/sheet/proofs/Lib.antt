pub mod Declaring
pub mod Posting
pub mod Judging
