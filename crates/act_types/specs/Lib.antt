pub mod GoodText
pub mod Names
pub mod Own
pub mod KindState
pub mod Texts
