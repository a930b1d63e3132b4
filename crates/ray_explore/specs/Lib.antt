pub mod Status
pub mod Told
pub mod Telling
pub mod All
