pub mod Merge
pub mod Deeds
pub mod Plays
