pub mod Common
pub mod Pushed
pub mod Each
