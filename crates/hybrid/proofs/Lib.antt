pub mod Value
pub mod Floats
pub mod Pattern
pub mod Saturate
