pub mod Counts
pub mod Least
pub mod Levels
pub mod Links
pub mod Resolver
pub mod Waiters
