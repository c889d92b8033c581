pub mod Rail
