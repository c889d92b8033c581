pub mod Limits
pub mod Torque
pub mod Bounded
