-- The entries and reasons by which the code finds that a process is not fixed to a file.
use Rattle.std.specs.Prelude.{ℕ, Bool, true, false, List, [], ◌∷◌, map, Option, None, Some}
use Rattle.pv_audit.specs.Findings.{entries_passing, governing, least}
use Rattle.pv_model.specs.declared.verdict.Why.{Why}
use Rattle.pv_model.specs.declared.verdict.Why.TheVariants.{Above}
use Rattle.pv_model.specs.Machine.{Bytes, Tree, Table}
use Rattle.pv_model_questions.specs.declared.edit_reason.EditReason.{EditReason}
use Rattle.pv_model_questions.specs.Fixed.{lets_edit}

-- the first of some reasons
abbrev pub first_edit : List EditReason → Option EditReason
first_edit [] = None
first_edit (why ∷ whys) = Some why

-- the reason with a number, if there is one; otherwise a later reason
abbrev pub edit_by_number : (ℕ → EditReason) → Option ℕ → Option EditReason → Option EditReason
edit_by_number why None later = later
edit_by_number why (Some k) later = Some (why k)

-- a reason if the condition is false; otherwise a later reason
abbrev pub edit_unless : Bool → EditReason → Option EditReason → Option EditReason
edit_unless true why later = later
edit_unless false why later = Some why

-- the least entry that governs a name and lets a process edit the file
abbrev pub least_giving : Tree → Table → Bool → List (ℕ × Bytes) → Option ℕ
least_giving t table in_place names = least (entries_passing (lets_edit in_place) table (map (governing t table) names))

-- the entry of a reason, if it is that an entry lets the process move the file or a directory above it
abbrev pub above_of : Option Why → Option ℕ
above_of (Some (Above k)) = Some k
above_of _ = None

abbrev pub above_or : Option ℕ → Option ℕ → Option ℕ
above_or None later = later
above_or (Some k) later = Some k

-- the first entry above among reasons
abbrev pub above_among : List (Option Why) → Option ℕ
above_among [] = None
above_among (o ∷ os) = above_or (above_of o) (above_among os)
