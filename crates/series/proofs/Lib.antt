pub mod Taking
pub mod Agreeing
pub mod Writing
pub mod Accepting
pub mod Exactness
pub mod Hearing
