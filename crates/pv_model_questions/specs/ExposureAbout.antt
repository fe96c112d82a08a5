-- The text of `exposure` about given files: the findings about them, and those of them that are safe.
use Rattle.std.specs.Prelude.{ℕ, Bool, if◌then◌else◌, List, [], ◌∷◌, ◌++◌, map, flat_map, filter, Option}
use Rattle.pv_model.specs.Answers.Explore.{Found}
use Rattle.pv_model.specs.Answers.Exposure.{Located, located, program_key}
use Rattle.pv_model.specs.Answers.Files.{files_of_tree}
use Rattle.pv_model.specs.Answers.Lines.{AnswerLine, counted_from}
use Rattle.pv_model.specs.Answers.Observed.{groups}
use Rattle.pv_model.specs.Answers.ProgramNames.{program_line}
use Rattle.pv_model.specs.Bytes.{Bytes}
use Rattle.pv_model.specs.State.{Program}
use Rattle.pv_model.specs.Tree.{Tree}
use Rattle.pv_model_questions.specs.declared.finding_kind.FindingKind.{FindingKind}
use Rattle.pv_model_questions.specs.AboutFiles.{keeps_node}
use Rattle.pv_model_questions.specs.Accesses.{kept_files}
use Rattle.pv_model_questions.specs.Exposure.{Finding, finding_by, kinds, lines_of_findings, reason_by, safe_files_of_first, safe_line}

-- the files of a tree that are kept
abbrev pub kept_files_of : List Bytes → (first t : Tree) → List ℕ
kept_files_of files first t = filter (keeps_node files first t) (files_of_tree t)

module _ (files : List Bytes) (program_of : Bytes → Option Program) (first : Tree) where
  -- the findings of a process about the files of its state that are kept
  abbrev pub findings_about : FindingKind → Located → List Finding
  findings_about kind l =
      flat_map (λ f. finding_by program_of first kind l f (reason_by program_of l f kind)) (kept_files_of files first l.found.state.tree)

  module _ (complete : Bool) where
    abbrev pub lines_of_kind_about : List Located → FindingKind → List AnswerLine
    lines_of_kind_about ls kind = lines_of_findings kind (flat_map (findings_about kind) ls)

    abbrev pub safe_lines_about : List Located → List AnswerLine
    safe_lines_about ls = if complete then map (safe_line first) (kept_files files first (safe_files_of_first first ls)) else []

    -- a program: its number, and its processes in all states
    abbrev pub lines_of_program_about : ℕ × (Located × List Located) → List AnswerLine
    lines_of_program_about (k, (l, ls)) =
        program_line program_of first k l.process.program ∷ flat_map (lines_of_kind_about ls) kinds ++ safe_lines_about ls

    -- the lines of the programs of visited states, and the last line
    unfoldable pub exposed_lines_about : List Found → AnswerLine → List AnswerLine
    exposed_lines_about found done = flat_map lines_of_program_about (counted_from 1 (groups program_key (located found))) ++ done ∷ []
