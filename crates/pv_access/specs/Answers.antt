-- The lines of `access` by a kind of search.
use Rattle.std.specs.Prelude.{ℕ, List}
use Rattle.pv_model.specs.Machine.{AnswerLine, Bytes, program_of, State}
use Rattle.pv_model_questions.specs.Accesses.{access_lines}
use Rattle.pv_reduced.specs.OfLawsClasses.ReducedAnswers.{reduced_access_lines}
use Rattle.pv_reduced.specs.declared.kind.SearchKind.{SearchKind}
use Rattle.pv_reduced.specs.declared.kind.SearchKind.TheVariants.{Full, Reduced}

-- the lines about given files
abbrev pub access_lines_by : List Bytes → SearchKind → ℕ → State → List AnswerLine
access_lines_by files Full limit s = access_lines program_of limit s files
access_lines_by files Reduced limit s = reduced_access_lines program_of limit s files
