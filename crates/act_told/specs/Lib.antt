pub mod Told
pub mod Starts
pub mod InOrder
