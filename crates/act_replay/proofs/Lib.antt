pub mod Common
pub mod Each
pub mod Faults
pub mod Playing
pub mod Twins
pub mod Unplayed
pub mod Circular
pub mod Awaiting
