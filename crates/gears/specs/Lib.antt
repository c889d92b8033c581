pub mod Gear
pub mod Narrow
pub mod Examples
