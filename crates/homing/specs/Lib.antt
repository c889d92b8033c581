pub mod Complete
pub mod Progress
pub mod Phase
pub mod Steps
pub mod Moving
pub mod Parked
