pub mod Runs
pub mod Setups
pub mod Prepared
pub mod PlanChecks
