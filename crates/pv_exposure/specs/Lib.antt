pub mod Answers
pub mod Collected
pub mod Editing
pub mod Reading
pub mod Seen
pub mod StateFiles
pub mod Stored
pub mod Unnamed
