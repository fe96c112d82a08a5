pub mod Answering
pub mod Observing
pub mod Pairs
pub mod Plan
pub mod Stopping
