pub mod Phases
pub mod Stretches
pub mod Settled
pub mod Runs
pub mod Traces
