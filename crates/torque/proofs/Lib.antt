pub mod Within
pub mod Guard
