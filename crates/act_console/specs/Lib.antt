pub mod Input
pub mod Output
pub mod Parts
pub mod Console
pub mod Stock
pub mod Plans
pub mod Threads
