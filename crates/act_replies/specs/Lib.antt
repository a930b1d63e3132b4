pub mod Chains
pub mod Table
