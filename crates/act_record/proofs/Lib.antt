pub mod Common
pub mod Ends
pub mod Told
