pub mod Lists
pub mod Cells
pub mod Writes
