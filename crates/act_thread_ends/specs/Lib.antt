pub mod ThreadEnds
