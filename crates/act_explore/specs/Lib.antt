pub mod Plans
pub mod Ends
pub mod Paths
pub mod Searches
pub mod Faults
pub mod Found
