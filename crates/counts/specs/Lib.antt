pub mod Wrap
pub mod Fits
pub mod Movement
pub mod Divide
pub mod Clamp
pub mod Bit
pub mod Between
pub mod Tests
