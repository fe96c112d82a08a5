-- The text formats: programs, schedules, manifests and bundles.
pub mod Applied
pub mod Arguments
pub mod Entries
pub mod Forms
pub mod Instructions
pub mod Lines
pub mod Manifests
pub mod Programs
pub mod Schedules
pub mod Encoding
pub mod Texts
