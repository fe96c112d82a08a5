-- The paths of the files that an answer is about.
use Rattle.std.specs.Prelude.{List, [], ◌∷◌, Option}
use Rattle.std.specs.Borrow.{Bor}
use Rattle.pv_model.specs.Bytes.{Bytes}
use Rattle.pv_questions.specs.declared.question.Files.{Files}

-- the paths in order, as the code passes them on
abbrev pub paths_of : Files → List (Option (Bor Bytes))
paths_of files =
    files.paths.0 ∷ files.paths.1 ∷ files.paths.2 ∷ files.paths.3 ∷ files.paths.4 ∷ files.paths.5 ∷ files.paths.6 ∷ files.paths.7 ∷ []
