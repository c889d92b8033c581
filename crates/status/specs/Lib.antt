pub mod Statusword
