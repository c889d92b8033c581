pub mod Within
pub mod Numbered
