pub mod Axis
pub mod Takeover
pub mod Word
pub mod Tick
pub mod Refused
pub mod Numbers
