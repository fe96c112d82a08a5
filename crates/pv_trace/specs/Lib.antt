pub mod Steps
pub mod Reported
pub mod Words
