pub mod Homes
pub mod Runs
pub mod Legs
pub mod Examples
