pub mod Asking
pub mod Eager
pub mod Fits
pub mod Paced
pub mod Rested
pub mod Walking
pub mod Whole
