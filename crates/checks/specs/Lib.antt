pub mod Check
pub mod Cases
