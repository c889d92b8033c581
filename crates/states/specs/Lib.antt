pub mod States
pub mod Alarm
pub mod Status
