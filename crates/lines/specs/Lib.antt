pub mod Lines
pub mod Rails
pub mod Runs
pub mod Ticks
pub mod Trouble
