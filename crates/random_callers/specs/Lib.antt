pub mod Kinds
pub mod Status
pub mod Walks
