pub mod Words
pub mod Held
