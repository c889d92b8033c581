pub mod Values
pub mod Fifteen
pub mod Run
pub mod There
pub mod Once
pub mod Completed
pub mod Back
