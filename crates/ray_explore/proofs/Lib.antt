pub mod Common
pub mod Written
pub mod Known
pub mod Each
