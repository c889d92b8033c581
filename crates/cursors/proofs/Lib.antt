pub mod Meaning
pub mod Texts
