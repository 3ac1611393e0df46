pub mod Table
pub mod Courts
pub mod Hearing
pub mod Steps
pub mod Findings
pub mod Openings
pub mod Examples
