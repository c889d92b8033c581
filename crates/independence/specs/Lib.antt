pub mod Alike
pub mod Positions
pub mod Takeovers
pub mod Leg
pub mod CannotKnow
pub mod Rehearsals
pub mod Examples
