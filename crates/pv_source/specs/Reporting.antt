-- The reported lines of a source.
use Rattle.std.specs.Prelude.{◌≡◌, ℕ, List, ◌++◌, take}
use Rattle.pv_source.specs.declared.faults.Fault.{Fault}
use Rattle.pv_model.specs.Source.Judged.{REPORTED}

abbrev pub line_of_error : Fault → ℕ
line_of_error fault = fault.line

-- lines were reported after others, as far as the limit allows
pub record ReportsLines (before after reported : List ℕ) : Type 0 where
  pub is : (rest : List ℕ) → take REPORTED (after ++ rest) ≡ take REPORTED (before ++ (reported ++ rest))
