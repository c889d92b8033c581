pub mod Run
pub mod Stretch
pub mod Trace
