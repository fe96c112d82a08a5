pub mod Adding
pub mod Building
pub mod Contents
pub mod Entries
pub mod Growing
pub mod Paths
pub mod Reading
