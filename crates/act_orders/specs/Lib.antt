pub mod Order
pub mod Search
pub mod Causes
pub mod Whole
pub mod Faults
pub mod Stuck
pub mod Nexts
pub mod Refused
