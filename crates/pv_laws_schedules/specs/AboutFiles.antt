-- Laws of `exposure` about given files: its findings and safe files are those of the whole answer that are about them.
use Rattle.std.specs.Prelude.{◌≡◌, ◌↔◌, ℕ, Bool, IsTrue, List, [], Contains, Option}
use Rattle.pv_model.specs.Machine.{AnswerLine, Bytes, files_of_tree, Found, Located, Program, Tree}
use Rattle.pv_model_questions.specs.declared.finding_kind.FindingKind.{FindingKind}
use Rattle.pv_model_questions.specs.AboutFiles.{keeps_node}
use Rattle.pv_model_questions.specs.Exposure.{exposed_lines, Finding, finding_by, reason_by}
use Rattle.pv_model_questions.specs.ExposureAbout.{exposed_lines_about, findings_about}

-- without given files the answer is about all files
abbrev pub NoFilesAskForAll : Type 0
NoFilesAskForAll =
    (program_of : Bytes → Option Program) (first : Tree) (complete : Bool) (found : List Found) (done : AnswerLine)
    → exposed_lines_about [] program_of first complete found done ≡ exposed_lines program_of first complete found done

-- a finding of a process is that about a file of the state which is kept
pub record IsFindingAbout (files : List Bytes) (program_of : Bytes → Option Program) (first : Tree) (kind : FindingKind) (l : Located) (x : Finding) : Type 0 where
  pub file : ℕ
  pub within : Contains (files_of_tree l.found.state.tree) file
  pub kept : IsTrue (keeps_node files first l.found.state.tree file)
  pub finding : Contains (finding_by program_of first kind l file (reason_by program_of l file kind)) x

-- the findings about given files are exactly those about the files that are kept
abbrev pub FindingsAreAboutFiles : Type 0
FindingsAreAboutFiles =
    (files : List Bytes) (program_of : Bytes → Option Program) (first : Tree) (kind : FindingKind) (l : Located) (x : Finding)
    → Contains (findings_about files program_of first kind l) x ↔ IsFindingAbout files program_of first kind l x
