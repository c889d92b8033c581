pub mod Fitting
pub mod Ranges
