pub mod Rehearsals
pub mod Ends
pub mod FoundEnds
