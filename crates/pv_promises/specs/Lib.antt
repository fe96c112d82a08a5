pub mod Decision
pub mod Pledge
