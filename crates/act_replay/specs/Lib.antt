pub mod Play
pub mod Faults
pub mod Notes
pub mod Circle
pub mod AwaitCircle
