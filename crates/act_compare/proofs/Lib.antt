pub mod Each
pub mod Calls
pub mod Playing
