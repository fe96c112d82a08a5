-- The files of a state, as contracts see them.
use Rattle.std.specs.Prelude.{◌≡◌, ℕ, Bool, true, not, ◌||◌, if◌then◌else◌, length, List, map, Option, None, Some, option_and_then}
use Rattle.std.specs.List.{range_with_len}
use Rattle.pv_model.specs.declared.verdict.Why.{Why}
use Rattle.pv_model.specs.Machine.{Bytes, first_of, is_file_at, leaks, Process, State, process_at, Tree}
use Rattle.pv_model_questions.specs.Briefs.{brief_since}
use Rattle.pv_model_questions.specs.Exposure.{are_all_closed, first_leak_of}
use Rattle.pv_model_questions.specs.ExposureAbout.{kept_files_of}
use Rattle.pv_exposure.specs.declared.files.StateFile.{StateFile}
use Rattle.pv_exposure.specs.declared.files.StateFiles.{StateFiles}

-- a file with its description
abbrev pub described : StateFile → ℕ × Bytes
described file = (file.node, file.text.items)

abbrev pub described_file : Tree → Tree → ℕ → ℕ × Bytes
described_file first t f = (f, brief_since first t f)

-- the first reason why a process is not closed to a file, if it is live
abbrev pub leak_in : State → ℕ → ℕ → Option Why
leak_in s pid f = option_and_then (λ p. first_of (leaks s p f)) (process_at s pid)

-- the first leak of a node, if it is a file
abbrev pub first_leak_at : State → ℕ → Option (ℕ × Why)
first_leak_at s f = if is_file_at s.tree f then first_leak_of s f else None

abbrev pub is_safe_at : ℕ → State → Bool
is_safe_at f s = not (is_file_at s.tree f) || are_all_closed s f

-- a file of a state, with its description
pub record IsFileOf (first : Tree) (s : State) (file : StateFile) : Type 0 where
  pub is : is_file_at s.tree file.node ≡ true
  pub text : file.text.items ≡ brief_since first s.tree file.node

-- the files of a state about which findings are kept
pub record AreFilesOf (given : List Bytes) (first : Tree) (s : State) (files : StateFiles) : Type 0 where
  pub described : map described files.files.items ≡ map (described_file first s.tree) (kept_files_of given first s.tree)
  pub leaks : files.leaks.items ≡ map (first_leak_at s) (range_with_len 0 (length s.tree.nodes))
