pub mod Common
pub mod Chains
pub mod Counts
pub mod Deaths
pub mod Links
