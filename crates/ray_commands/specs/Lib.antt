pub mod Command
pub mod Ended
pub mod Status
