pub mod Status
pub mod Work
