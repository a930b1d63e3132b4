pub mod Shapes
pub mod Services
pub mod Faults
