pub mod Pending
pub mod Read
pub mod Cases
