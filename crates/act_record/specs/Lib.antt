pub mod Record
pub mod Output
