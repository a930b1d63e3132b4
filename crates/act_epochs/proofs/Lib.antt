pub mod Common
pub mod Lists
pub mod OneEpoch
pub mod AllEpochs
pub mod Growing
