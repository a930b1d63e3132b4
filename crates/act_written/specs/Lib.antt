pub mod Texts
pub mod Output
