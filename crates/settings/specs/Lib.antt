pub mod Refusal
pub mod Ranges
