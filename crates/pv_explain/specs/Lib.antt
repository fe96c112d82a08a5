pub mod Added
pub mod AddedLaws
pub mod ErrorParts
pub mod Errors
pub mod Explaining
pub mod Keeping
pub mod Made
pub mod Steps
