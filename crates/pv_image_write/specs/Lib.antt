pub mod Placed
pub mod Encoding
pub mod Written
pub mod Writable
pub use Rattle.pv_tree.specs.OfDirs
