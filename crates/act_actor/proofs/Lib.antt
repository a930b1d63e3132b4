pub mod Common
pub mod Values
pub mod Pairs
pub mod Running
pub mod ActorSpecs
