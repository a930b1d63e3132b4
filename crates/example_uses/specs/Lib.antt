pub mod Fronts
pub mod OneCall
pub mod Peaceful
pub mod Scripts
