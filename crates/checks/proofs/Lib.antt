pub mod Numbers
pub mod Sends
