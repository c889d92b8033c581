pub mod ReadInto
pub mod Unique
pub mod Stream
