pub mod Limits
pub mod Signs
pub mod Writing
