mod Cells
mod Rows
pub mod Fits
pub mod Placed
pub mod Examples
