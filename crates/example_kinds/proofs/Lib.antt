pub mod Common
pub mod Keeps
pub mod Money
pub mod Orders
pub mod Rates
