pub mod Pairs
pub mod Places
pub mod Cuts
pub mod Stamped
pub mod Kept
