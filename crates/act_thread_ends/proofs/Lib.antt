pub mod Common
pub mod Plans
pub mod Left
pub mod Ends
pub mod Fitting
