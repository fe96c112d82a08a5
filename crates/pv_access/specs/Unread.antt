-- The files of a tree whose bytes no step of a search depends on, and the last lines of `access`.
use Rattle.std.specs.Prelude.{ℕ, Bool, not, ◌&&◌, if◌then◌else◌, List, [], ◌∷◌, ◌++◌, map, filter, bytes_eq, codes}
use Rattle.std.specs.List.{list_any}
use Rattle.pv_model.specs.Machine.{named_files, node_brief, AnswerLine, answer_line, Bytes, same_node, Tree, root, find_entry}
use Rattle.pv_model_questions.specs.Accesses.{kept_files}
use Rattle.pv_reduced.specs.declared.kind.SearchKind.{SearchKind}
use Rattle.pv_reduced.specs.Kinds.{count_line}
use Rattle.pv_named_files.specs.Notes.{note}

-- a list with the number if the condition holds, and the empty list otherwise
abbrev pub singleton_if : Bool → ℕ → List ℕ
singleton_if b n = if b then n ∷ [] else []

module _ (t : Tree) where
  -- whether a file is not the one at `/init`, and the texts have no note of it
  abbrev pub is_without_note : List Bytes → ℕ → Bool
  is_without_note texts n = not (same_node (find_entry t root (codes "init")) n) && not (list_any (bytes_eq (note n)) texts)

  abbrev pub files_without_note : List Bytes → List ℕ
  files_without_note texts = filter (is_without_note texts) (named_files t)

  abbrev pub unread_file_line : ℕ → AnswerLine
  unread_file_line n = answer_line 0 (codes "UNRD") (node_brief t n)

  module _ (files : List Bytes) where
    -- the lines of the files without a note that are kept, if the search is complete
    abbrev pub unread_lines : List Bytes → Bool → List AnswerLine
    unread_lines texts complete = if complete then map unread_file_line (kept_files files t (files_without_note texts)) else []

    -- the lines after those of the accesses, given the kind of search, the texts that were observed, the number of states and
    -- whether no state was left out
    abbrev pub last_lines : SearchKind → List Bytes → ℕ → Bool → List AnswerLine
    last_lines kind texts states complete = unread_lines texts complete ++ count_line kind states complete ∷ []
