pub mod Bits
pub mod Words
pub mod Carry
pub mod Counting
pub mod Stores
