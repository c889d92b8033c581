pub mod Choices
pub mod Switches
