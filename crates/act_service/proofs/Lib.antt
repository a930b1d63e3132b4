pub mod Common
pub mod Leading
pub mod Fits
pub mod Faults
