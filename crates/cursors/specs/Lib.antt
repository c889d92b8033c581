pub mod Place
pub mod Trouble
pub mod Reading
pub mod Names
