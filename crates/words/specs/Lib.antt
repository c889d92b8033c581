pub mod Word
pub mod Encode
pub mod Decode
