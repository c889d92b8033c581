pub mod Replies
pub mod Streams
pub mod Inputs
pub mod Ends
