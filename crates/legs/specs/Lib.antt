pub mod Legs
pub mod Events
pub mod Routes
pub mod Numbers
