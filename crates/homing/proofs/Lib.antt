pub mod Completion
pub mod Simulation
pub mod Examples
pub mod LimitLeg
pub mod Phases
pub mod Starts
pub mod Stopped
pub mod Parked
