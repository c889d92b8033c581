pub mod Assembly
pub mod Target
