pub mod Common
pub mod Places
pub mod Going
pub mod Counting
pub mod Standing
pub mod Turning
pub mod Ending
