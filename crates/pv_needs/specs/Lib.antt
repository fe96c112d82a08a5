pub mod Asking
pub mod Granted
pub mod RecordedLines
pub mod Recording
pub mod KnownWords
pub mod ProcessImages
pub mod Turning
pub mod Worked
pub use Rattle.pv_answers.specs as OfAnswers
pub use Rattle.pv_session.specs.OfCallsPath
pub use Rattle.pv_session.specs as OfSession
