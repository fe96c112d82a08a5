pub mod Alike
pub mod Answers
pub mod Candidates
pub mod Subjects
pub mod Texts
pub mod Unread
pub use Rattle.pv_named_files.specs as OfNamedFiles
