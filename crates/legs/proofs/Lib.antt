pub mod Computed
pub mod Rows
pub mod Numbers
