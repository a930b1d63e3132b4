pub mod Common
pub mod Chains
pub mod Counting
pub mod Levels
