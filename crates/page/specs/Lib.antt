pub mod Written
pub mod Page
