pub mod Frontier
pub mod Rest
pub mod Kinds
pub mod Scripted
