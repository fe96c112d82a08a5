pub mod Migrated
pub mod Written
pub mod Traces
pub use Rattle.pv_image_mount.specs.OfTree
