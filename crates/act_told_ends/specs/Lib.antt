pub mod Told
pub mod Walks
pub mod Retiring
pub mod Walked
pub mod Untold
pub mod Resting
pub mod Deciding
pub mod LeftOpen
