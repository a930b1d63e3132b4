pub mod Common
pub mod Rest
pub mod Scripted
