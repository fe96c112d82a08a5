pub mod Fragments
pub mod ProperPrefixes
pub mod Sinks
pub mod Sources
