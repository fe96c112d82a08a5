-- Lemmas of programs and contexts: WholePrograms (a loop over the lines of a program, for any line parser),
-- WholeSchedules, ContextEffects (instructions on registers), BufferBytes (a buffer is zero past `used`).
pub mod BufferBytes
pub mod ContextEffects
pub mod WholePrograms
pub mod WholeSchedules
