pub mod Rules
pub mod Motion
pub mod After
