pub mod Branches
pub mod Taking
pub mod Ticked
