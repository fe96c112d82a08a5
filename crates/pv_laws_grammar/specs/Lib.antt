pub mod Written
pub mod Accepted
pub mod Labels
pub mod Comments
