pub mod Epochs
pub mod OverEpochs
