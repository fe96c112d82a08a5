-- Definitions of answers to questions.
pub mod AboutFiles
pub mod Accesses
pub mod AccessesWorked
pub mod Briefs
pub mod ExplainMore
pub mod ExplainMoreWorked
pub mod Exposure
pub mod ExposureAbout
pub mod ExposureWorked
pub mod Fixed
pub mod Notes
pub mod NotesWorked
