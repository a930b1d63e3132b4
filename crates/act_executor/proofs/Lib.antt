pub mod Common
pub mod Crossing
pub mod Lists
pub mod OpenLines
pub mod EndsOfRuns
pub mod PlaysOfThreads
pub mod PlaysOfPlans
