-- The text of a comparison, written line by line, and its result.
use Rattle.std.specs.Prelude.{ℕ, Bool, true, false, ◌++◌, codes, Option, None, Some}
use Rattle.pv_compare.specs.declared.compare.Compared.{Compared}
use Rattle.pv_compare.specs.declared.compare.Compared.TheVariants.{Same, Incomplete, Different}
use Rattle.pv_compare.specs.declared.differences.Difference.{Difference}
use Rattle.pv_model.specs.Machine.{Comparison, alike, different, witness_text, answer_line, answer_line_bytes, Bytes}
use Rattle.pv_model.specs.Answers.Compare.{alike_text, pairs_line}

abbrev pub side_line : Bytes → Bytes
side_line side = answer_line_bytes (answer_line 0 (codes "SIDE") side)

-- a step that differs
abbrev pub difference_text : Difference → ℕ → Bytes
difference_text d pairs =
    answer_line_bytes (answer_line d.pid (codes "BY") (witness_text d.witness.items))
    ++ side_line (codes "first") ++ d.first.items ++ side_line (codes "second") ++ d.second.items ++ answer_line_bytes (pairs_line pairs (codes "different"))

-- the result of a search of pairs
abbrev pub result_text : ℕ → Bool → Option Difference → Bytes
result_text pairs complete None = answer_line_bytes (pairs_line pairs (alike_text complete))
result_text pairs complete (Some d) = difference_text d pairs

abbrev pub compared_if : Bool → Compared
compared_if true = Same
compared_if false = Incomplete

abbrev pub compared_by : Bool → Option Difference → Compared
compared_by complete None = compared_if complete
compared_by complete (Some d) = Different

abbrev pub compared_of : Comparison → Compared
compared_of (different m pairs) = Different
compared_of (alike complete pairs) = compared_if complete
