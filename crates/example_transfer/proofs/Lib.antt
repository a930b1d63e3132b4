pub mod Common
pub mod SamePurse
pub mod Threads
