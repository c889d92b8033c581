pub mod Strip
pub mod Picture
pub mod Fits
pub mod Placed
pub mod Examples
