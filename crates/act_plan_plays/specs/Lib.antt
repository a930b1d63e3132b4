pub mod View
pub mod Parts
pub mod Play
pub mod Moves
pub mod Prepared
pub mod Retired
