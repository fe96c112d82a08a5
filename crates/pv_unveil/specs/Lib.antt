pub mod Added
pub mod Judged
pub mod Keys
pub mod Marks
pub mod Unveiled
pub mod Up
pub use Rattle.pv_tree.specs as OfTree
