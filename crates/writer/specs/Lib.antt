pub mod Write
pub mod Cases
