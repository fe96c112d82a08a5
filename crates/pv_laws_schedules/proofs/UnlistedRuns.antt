-- Runs from states whose processes are closed to a file.
use Rattle.std.proofs.Common.{◌≡◌, ◌≢◌, ℕ, Bool, true, not, ◌&&◌, List, [], ◌∷◌, map, filter, Contains, Option, Some, inl, inr, refl, ap, ◌⊎◌}
use Rattle.std.specs.List.{list_all}
use Rattle.std.proofs.lemmas.Bool.{and_parts, and_from}
use Rattle.pv_model.specs.Machine.{files_of_tree, is_file_at, named_files, number_numbers, ListedName, Bytes, is_empty, numbered, live_processes, leaks, Program, Process, State, process_at, run, Tree, names_of}
use Rattle.pv_model.specs.Answers.Files.{unnamed_files}
use Rattle.pv_model.specs.Answers.Reach.{listed_names}
use Rattle.pv_model.specs.Closed.{IsClosed}
use Rattle.pv_laws_states.specs.States.{EncodesPrograms, IsValid}
use Rattle.pv_laws_states.proofs.ValidBySteps.{run-keeps_valid}
use Rattle.pv_laws_access.specs.OwnRuns.{IsFixed}
use Rattle.pv_laws_access.proofs.OwnRuns.{closed-runs_alike, fixed-runs_keep}
use Rattle.pv_laws_access.proofs.SealedRuns.{sealed-for_ever}
use Rattle.pv_laws_access.proofs.Verdicts.{leaks-closed}
use Rattle.pv_laws_answers.proofs.Lists.{Among, among-either, filter-among}
use Rattle.pv_laws_answers.proofs.LiveProcesses.{listed-live}
use Rattle.pv_laws_answers.proofs.NewKeys.{new-came}
use Rattle.pv_laws_classes.proofs.ReducedProcesses.{themselves}
use Rattle.pv_laws_schedules.specs.UnlistedRuns.{OwnRunsAreEqual, OwnRunsKeep, AllRunsAreEqual, UnlistedLinesKeep, UnlistedLinesRunEqually, UnlistedLinesSeal, UnlistedFilesAreSealed, UnlistedLinesRunEquallyReduced, UnlistedFilesAreSealedReduced}
use Rattle.pv_laws_schedules.proofs.ExposureLines.{unlisted-closed, unlisted-fixed, unlisted-shut}
use Rattle.pv_laws_schedules.proofs.ReducedExposureLines.{unlisted-closed_reduced}

-- each listed file is a file
are-files : (t : Tree) (f : ℕ) → Among f (files_of_tree t) → is_file_at t f ≡ true
are-files t f h = by (among-either f (named_files t) (unnamed_files t) h)
  where
    by : Among f (named_files t) ⊎ Among f (unnamed_files t) → is_file_at t f ≡ true
    by (inl named) =
        (filter-among (is_file_at t) f (map (λ (l : ListedName). l.node) (listed_names t))
        (new-came number_numbers [] (filter (is_file_at t) (map (λ (l : ListedName). l.node) (listed_names t))) f named)).1
    by (inr unnamed) =
        (and_parts (is_file_at t f) (is_empty (names_of t f))
        (filter-among (λ n. is_file_at t n && is_empty (names_of t n)) f (map (λ node. node.0) (numbered t.nodes)) unnamed).1).0

all-from : {X : Type 0} (test : X → Bool) (xs : List X) → ((x : X) → Among x xs → test x ≡ true) → list_all test xs ≡ true
all-from test [] each = refl
all-from test (x ∷ xs) each = and_from (test x) (list_all test xs) (each x (inl refl)) (all-from test xs (λ y h. each y (inr h)))

module _ (program_of : Bytes → Option Program) (encodes : EncodesPrograms program_of) (u : State) (valid : IsValid u) (f : ℕ) (listed : Contains (files_of_tree u.tree) f) where
  file : is_file_at u.tree f ≡ true
  file = are-files u.tree f (themselves (files_of_tree u.tree) f listed)

  own-alike : (pid : ℕ) (p : Process) → process_at u pid ≡ Some p → IsClosed u p f → OwnRunsAreEqual program_of u pid f
  own-alike pid p live closed own bytes steps long = closed-runs_alike program_of encodes u pid p own f bytes valid file live closed steps long

  own-keep : (pid : ℕ) (p : Process) → process_at u pid ≡ Some p → IsFixed u p f → OwnRunsKeep program_of u pid f
  own-keep pid p live fixed own steps still = fixed-runs_keep program_of encodes u pid p own f valid file live fixed steps still

  all-alike : names_of u.tree f ≢ [] → ((pid : ℕ) (p : Process) → process_at u pid ≡ Some p → IsClosed u p f) → AllRunsAreEqual program_of u f
  all-alike named closed pids bytes long =
      sealed-for_ever program_of encodes u pids f bytes valid (record { file = file; sealed = and_from _ _ (has-name (names_of u.tree f) named) (all-from (λ (p : ℕ × Process). is_empty (leaks u p.1 f)) (live_processes u.processes) quiet) }) long
    where
      has-name : (names : List (ℕ × Bytes)) → names ≢ [] → not (is_empty names) ≡ true
      has-name [] some = absurd (some refl)
      has-name (n ∷ ns) some = refl

      quiet : (p : ℕ × Process) → Among p (live_processes u.processes) → is_empty (leaks u p.1 f) ≡ true
      quiet p h =
          ap is_empty ((leaks-closed u p.1 f valid.tree.well_formed).1 (closed p.0 p.1 (listed-live u p.0 p.1 valid.processes.ascending h)))

-- ---- the laws

pub unlisted-runs : UnlistedLinesRunEqually
unlisted-runs program_of limit s pids pid p f full is =
    own-alike program_of full.searchable.encodes (run program_of pids s).final (run-keeps_valid program_of full.searchable.encodes pids s full.searchable.whole) f is.file pid p is.live
    (unlisted-closed program_of limit s pids pid p f full is)

pub unlisted-keep : UnlistedLinesKeep
unlisted-keep program_of limit s pids pid p f full is =
    own-keep program_of full.searchable.encodes (run program_of pids s).final (run-keeps_valid program_of full.searchable.encodes pids s full.searchable.whole) f is.file pid p is.live
    (unlisted-fixed program_of limit s pids pid p f full is)

pub unlisted-seal : UnlistedLinesSeal
unlisted-seal program_of limit s pids pid p f full is other named =
    all-alike program_of full.searchable.encodes (run program_of pids s).final (run-keeps_valid program_of full.searchable.encodes pids s full.searchable.whole) f is.file named
    (unlisted-shut program_of limit s pids pid p f full is other)

pub unlisted-sealed : UnlistedFilesAreSealed
unlisted-sealed program_of limit s pids f full file named each =
    all-alike program_of full.searchable.encodes (run program_of pids s).final (run-keeps_valid program_of full.searchable.encodes pids s full.searchable.whole) f file named
    (λ pid p live. unlisted-closed program_of limit s pids pid p f full (each pid p live))

pub unlisted-runs_reduced : UnlistedLinesRunEquallyReduced
unlisted-runs_reduced program_of limit s pids pid p f is =
    own-alike program_of is.searchable.encodes (run program_of pids s).final (run-keeps_valid program_of is.searchable.encodes pids s is.searchable.whole) f is.unlisted.file pid p is.unlisted.live
    (unlisted-closed_reduced program_of limit s pids pid p f is)

pub unlisted-sealed_reduced : UnlistedFilesAreSealedReduced
unlisted-sealed_reduced program_of limit s pids f it complete steps file named each =
    all-alike program_of it.encodes (run program_of pids s).final (run-keeps_valid program_of it.encodes pids s it.whole) f file named
    (λ pid p live. unlisted-closed_reduced program_of limit s pids pid p f (record { searchable = it; complete = complete; steps = steps; unlisted = each pid p live }))
