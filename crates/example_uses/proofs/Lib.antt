pub mod Common
pub mod Hearing
pub mod Playing
pub mod Peace
pub mod Casts
pub mod Fits
