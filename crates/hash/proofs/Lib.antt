pub mod Publics
pub mod Chains
pub mod Blocks
