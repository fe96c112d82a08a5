-- The stored findings and records of programs, as contracts see them.
use Rattle.std.specs.Prelude.{◌≡◌, ◌==◌, ℕ, List, [], ◌∷◌, map, bytes_eq, filter, Option, None, Some, option_to_list, IsSome}
use Rattle.pv_model.specs.Machine.{Found, Located, first_of, Bytes, Process, process_at, program_of, Tree}
use Rattle.pv_model_questions.specs.declared.finding_kind.FindingKind.{FindingKind}
use Rattle.pv_model_questions.specs.declared.finding_kind.FindingKind.TheVariants.{Leak, Peer, Edit, Read}
use Rattle.pv_model_questions.specs.Exposure.{read_observer, finding_by, reason_by}
use Rattle.pv_named_files.specs.FirstPaths.{files_given, first_tree}
use Rattle.pv_reduced.specs.OfSession.Running.{stepped}
use Rattle.pv_exposure.specs.Collected.{Exposed, Recorded, recorded_of, with_all}
use Rattle.pv_exposure.specs.StateFiles.{AreFilesOf}
use Rattle.pv_exposure.specs.declared.findings.StoredFinding.{StoredFinding}
use Rattle.pv_exposure.specs.declared.reasons.Visit.{Visit}

abbrev pub recorded_in : StoredFinding → Recorded
recorded_in x = record { witness = x.witness.items; pid = x.pid; line = x.line; file = x.file.items; reason = x.reason.items }

abbrev pub all_recorded : List StoredFinding → List Recorded
all_recorded xs = map recorded_in xs

-- the finding of a kind about a process and a file, if there is one
abbrev pub recorded_by_file : Tree → FindingKind → Located → ℕ → List Recorded
recorded_by_file first kind l f = map recorded_of (finding_by program_of first kind l f (reason_by program_of l f kind))

-- a process of a visited state
abbrev pub located_by : Found → ℕ → Process → Located
located_by f pid p = record { found = f; pid = pid; process = p }

abbrev pub located_if : Found → ℕ → Option Process → List Located
located_if f pid None = []
located_if f pid (Some p) = located_by f pid p ∷ []

-- the process of a visit
abbrev pub located_in_visit : Visit → Process → Located
located_in_visit v p = located_by (record { witness = v.witness.now; state = v.parts.now }) v.pid p

-- a process is live, with the files of its state, and the file that its next step reads
pub record IsVisit (v : Visit) : Type 0 where
  pub live : IsSome (process_at v.parts.now v.pid)
  pub files : AreFilesOf (files_given v.paths.now) (first_tree v.paths.now) v.parts.now v.files.now
  pub read : option_to_list v.read ≡ read_observer v.parts.now v.pid (stepped v.parts.now v.pid)

-- the findings of a file text
abbrev pub recorded_of_file : Bytes → List Recorded → List Recorded
recorded_of_file file ks = filter (λ k. bytes_eq k.file file) ks

-- the first finding at a line
abbrev pub first_at : ℕ → List Recorded → Option Recorded
first_at line ks = first_of (filter (λ k. k.line == line) ks)

-- the record of a program after the findings about one more file
abbrev pub exposed_with_file : Tree → Located → Exposed → ℕ → Exposed
exposed_with_file first l e f = record {
  program = e.program;
  leaks = with_all e.leaks (recorded_by_file first Leak l f);
  peers = with_all e.peers (recorded_by_file first Peer l f);
  edits = with_all e.edits (recorded_by_file first Edit l f);
  reads = with_all e.reads (recorded_by_file first Read l f);
  safe = e.safe;
}

-- the record of a program after the findings about files
abbrev pub exposed_with_files : Tree → Located → Exposed → List ℕ → Exposed
exposed_with_files first l e [] = e
exposed_with_files first l e (f ∷ fs) = exposed_with_files first l (exposed_with_file first l e f) fs
