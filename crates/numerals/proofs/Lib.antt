pub mod Signs
pub mod Back
pub mod Short
