pub mod Gives
pub mod Spelled
pub mod Roles
pub mod Numerals
