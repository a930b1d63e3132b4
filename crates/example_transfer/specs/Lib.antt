pub mod Purse
pub mod Purses
pub mod Money
