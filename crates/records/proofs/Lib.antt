pub mod Numbers
pub mod Back
pub mod Wide
pub mod Match
