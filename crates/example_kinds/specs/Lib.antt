pub mod Bank
pub mod Banks
pub mod Gauge
pub mod Limiter
pub mod Queue
