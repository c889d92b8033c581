pub mod Words
pub mod Bits
pub mod Shifts
pub mod Spelled
pub mod Widths
mod Decoded
