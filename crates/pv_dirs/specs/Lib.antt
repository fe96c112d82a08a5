pub mod Counts
pub mod Dirs
pub mod Images
pub mod Index
pub mod Listing
pub mod Sizes
pub mod Slots
pub mod Stored
pub mod Trees
pub use Rattle.pv_inodes.specs as OfInodes
