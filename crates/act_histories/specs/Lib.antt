pub mod Cut
pub mod Checked
