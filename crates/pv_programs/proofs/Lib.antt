-- Lemmas about programs: AppendedNumbers (numbers in sequence), FirstNames (the first name of a program).
pub mod AppendedNumbers
pub mod FirstNames
pub use Rattle.pv_answers.proofs as OfAnswers
