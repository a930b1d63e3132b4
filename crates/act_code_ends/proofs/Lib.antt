pub mod Common
pub mod Taking
pub mod Each
pub mod Playing
