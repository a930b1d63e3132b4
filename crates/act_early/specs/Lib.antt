pub mod Plays
pub mod Early
pub mod Fronts
pub mod Quiescence
pub mod Lists
pub mod Told
