pub mod Printing
pub mod Bytes
mod Last
