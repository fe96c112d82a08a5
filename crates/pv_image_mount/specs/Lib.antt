pub mod Claims
pub mod Numbers
pub mod Places
pub mod Rows
pub mod Slots
pub use Rattle.pv_tree.specs as OfTree
