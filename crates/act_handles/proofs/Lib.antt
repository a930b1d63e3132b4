pub mod Common
pub mod Places
pub mod Lookups
pub mod Copies
