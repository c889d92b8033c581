pub mod Integers
pub mod Modulo
pub mod Floor
pub mod Between
pub mod Fits
