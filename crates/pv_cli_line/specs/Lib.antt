pub mod Line
pub mod Messages
pub mod Parser
pub mod Paths
pub mod Program
pub mod Status
pub mod Words
