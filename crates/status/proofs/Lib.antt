pub mod Bits
pub mod Modes
