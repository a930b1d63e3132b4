pub mod Common
