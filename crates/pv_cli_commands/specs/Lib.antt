pub mod Commands
pub mod Created
pub mod Directories
pub mod Reading
pub mod Streams
pub mod Writing
pub use Rattle.pv_host_copy.specs as OfHostCopy
pub use Rattle.pv_questions.specs as OfQuestions
pub use Rattle.pv_questions.specs.OfReduced
