pub mod Digits
pub mod Reach
