-- The accesses of the reduced search, and the files that it lists as unread.
use Rattle.std.proofs.Common.{◌≡◌, ◌∙◌, sym, ap, ap₂, subst, ℕ, true, false, not, ◌==◌, eq-eqb, List, [], ◌∷◌, ◌++◌, map, length, codes, Contains, Option, None, Some, is_some, ⊎_elim, refl}
use Rattle.std.specs.List.{list_any}
use Rattle.std.proofs.lemmas.Bool.{and_parts, not-true}
use Rattle.pv_model.specs.Machine.{Access, executes, accesses, Move, move, moves_of, AnswerLine, named_files, Observation, observed, of_next, of_process, of_calls, Bytes, same_node, Next, Program, Process, State, process_at, step, run, read_file, file_bytes, with_bytes, Touches, trace_bytes, root, find_entry}
use Rattle.pv_model.specs.Answers.Access.{reads, file_read, is_unread}
use Rattle.pv_model_questions.specs.Accesses.{lines_of_accesses}
use Rattle.pv_laws_states.specs.States.{EncodesPrograms, IsValid}
use Rattle.pv_laws_states.proofs.ValidBySteps.{run-keeps_valid, step-keeps_valid}
use Rattle.pv_laws_access.specs.Sealing.{RunsDifferInFile}
use Rattle.pv_laws_access.proofs.SimilarTrees.{as_is, near-bytes, near-length_of, same-but_file}
use Rattle.pv_laws_answers.specs.Accesses.{is_access_listed}
use Rattle.pv_laws_answers.specs.Search.{IsSearchable}
use Rattle.pv_laws_answers.specs.Witnesses.{AreSteps}
use Rattle.pv_laws_answers.proofs.LeastWitnesses.{steps-split}
use Rattle.pv_laws_answers.proofs.Lists.{Among, among-filter, among-filter_map, among-flat, among-map, any-among, each-among, filter-among}
use Rattle.pv_laws_answers.proofs.UnreadSteps.{unread-alike}
use Rattle.pv_laws_classes.specs.Reduced.{may_step, bound_at, reduced_moves_of, reduced_found, is_reduced_complete}
use Rattle.pv_laws_classes.specs.ReducedAnswers.{reduced_accesses, reduced_files_read, reduced_observations, reduced_observations_at, reduced_unread_files}
use Rattle.pv_laws_classes.specs.Shown.{Shown, IsSeen}
use Rattle.pv_laws_classes.proofs.ReducedProcesses.{themselves}
use Rattle.pv_laws_classes.proofs.ShownLaws.{each-access, each-process}
use Rattle.pv_laws_schedules.specs.Access.{lines_of_touch}
use Rattle.pv_laws_schedules.specs.ReducedAccess.{TouchesAreListedReduced, UnreadFilesAreReadByNoneReduced, UnreadFilesChangeNothingReduced}
use Rattle.pv_laws_schedules.proofs.ListedTouches.{touch-accessed}
use Rattle.pv_laws_schedules.proofs.ReachedStates.{own-move}
use Rattle.pv_laws_schedules.proofs.ReadAccess.{IsReadAccess, reads-accessed}

pub touches-listed_reduced : TouchesAreListedReduced
touches-listed_reduced program_of limit s files pids pid touch it complete steps touches kept =
    let u = (run program_of pids s).final in
    let own = touch-accessed program_of files s.tree u pid it.encodes (run-keeps_valid program_of it.encodes pids s it.whole) touch touches kept in
    any-among (λ line. is_access_listed line (reduced_accesses program_of limit s files)) own.line (lines_of_touch s.tree u.tree (step program_of u pid).after.tree pid touch) own.of_touch
    (each-among (λ (access : AnswerLine). is_access_listed access (reduced_accesses program_of limit s files) ≡ true)
    (of_calls (lines_of_accesses files s.tree) u pid (step program_of u pid)) (each-access program_of limit s files pids pid it complete steps) own.line own.of_step)

-- ---- unread files

module _ (program_of : Bytes → Option Program) (limit : ℕ) (s : State) (it : IsSearchable program_of limit s) (complete : is_reduced_complete program_of s limit ≡ true) where
  -- a file that an access of a step reads is among those of the search
  read-reduced : (pids : List ℕ) (pid f : ℕ) → AreSteps program_of (pids ++ pid ∷ []) s → (a : Access) → file_read a ≡ Some f
      → Among a (of_calls accesses (run program_of pids s).final pid (step program_of (run program_of pids s).final pid)) → Among f (reduced_files_read program_of limit s)
  read-reduced pids pid f steps a is has =
      let both = steps-split program_of pids pid s steps in
      let seen = each-process program_of limit s pids pid it complete both.0 both.1 in
      by seen (process_at seen.visited.state pid) refl seen.lives
    where
      by : (seen : IsSeen program_of limit s pids pid) → (o : Option Process) → process_at seen.visited.state pid ≡ o → is_some o ≡ true → Among f (reduced_files_read program_of limit s)
      by seen None gone lives = cc lives
      by seen (Some p) live lives =
          let m = move program_of seen.visited pid in
          let own = among-filter (λ (m : Move). may_step (bound_at program_of s seen.visited) m.pid) m (moves_of program_of seen.visited) (own-move program_of limit s it seen.visited pid p live) seen.may in
          let there : Among a (of_calls accesses seen.visited.state pid (step program_of seen.visited.state pid)) =
          subst (λ (own : List Access). Among a own) (sym (ap (λ (w : Shown). w.accesses) seen.same)) has in
          let here = among-flat (λ (m : Move). map (observed m) (of_calls accesses seen.visited.state m.pid m.stepped)) m (observed m a) (reduced_moves_of program_of s seen.visited) own
          (among-map (observed m) a (of_calls accesses seen.visited.state pid m.stepped) there) in
          let all = among-flat (reduced_observations_at (of_calls accesses) program_of limit s) seen.visited (observed m a) (reduced_found program_of s limit)
          (themselves (reduced_found program_of s limit) seen.visited seen.within) here in
          among-filter_map (λ (o : Observation Access). file_read o.item) (observed m a) f (reduced_observations (of_calls accesses) program_of limit s) all is

  touched-reduced : (pids : List ℕ) (pid f : ℕ) → AreSteps program_of (pids ++ pid ∷ []) s → Touches program_of (run program_of pids s).final pid (read_file f) → Among f (reduced_files_read program_of limit s)
  touched-reduced pids pid f steps touches = by (reads-accessed program_of (run program_of pids s).final pid f touches)
    where
      has-call : (read : IsReadAccess program_of (run program_of pids s).final pid f) (a : Access) → Among a (accesses (run program_of pids s).final pid read.process read.call (step program_of (run program_of pids s).final pid))
          → Among a (of_calls accesses (run program_of pids s).final pid (step program_of (run program_of pids s).final pid))
      has-call read a has =
          subst (λ (o : Option Process). Among a (of_process accesses (run program_of pids s).final pid (step program_of (run program_of pids s).final pid) o)) (sym read.live)
          (subst (λ (n : Next). Among a (of_next accesses (run program_of pids s).final pid (step program_of (run program_of pids s).final pid) read.process n)) (sym read.calls) has)

      by : IsReadAccess program_of (run program_of pids s).final pid f → Among f (reduced_files_read program_of limit s)
      by read =
          ⊎_elim (λ has. read-reduced pids pid f steps (reads f) refl (has-call read (reads f) has)) (λ has. read-reduced pids pid f steps (executes f) refl (has-call read (executes f) has)) read.has

  unread-unread : (f : ℕ) → Contains (reduced_unread_files program_of limit s) f → Among f (reduced_files_read program_of limit s) → ⊥
  unread-unread f has read =
      let is = (filter-among (is_unread program_of limit s (reduced_files_read program_of limit s)) f (named_files s.tree) (themselves (reduced_unread_files program_of limit s) f has)).1 in
      let none = (and_parts (not (same_node (find_entry s.tree root (codes "init")) f)) (not (list_any (λ m. m == f) (reduced_files_read program_of limit s))) is).1 in
      let there = any-among (λ m. m == f) f (reduced_files_read program_of limit s) read (eq-eqb f f refl) in
      let bad : true ≡ false = sym there ∙ not-true (list_any (λ m. m == f) (reduced_files_read program_of limit s)) none in cc bad

pub unread-read_by_none_reduced : UnreadFilesAreReadByNoneReduced
unread-read_by_none_reduced program_of limit s f pids pid it complete has steps touches = unread-unread program_of limit s it complete f has (touched-reduced program_of limit s it complete pids pid f steps touches)

-- ---- runs

module _ (program_of : Bytes → Option Program) (encodes : EncodesPrograms program_of) (f : ℕ) where
  -- no step of a live process reads the file
  abbrev IsUnreadFrom : State → Type 0
  IsUnreadFrom s = (pids : List ℕ) (pid : ℕ) → AreSteps program_of (pids ++ pid ∷ []) s → Touches program_of (run program_of pids s).final pid (read_file f) → ⊥

  unread-run : (pids : List ℕ) (s : State) (bytes : Bytes) → IsValid s → IsValid (with_bytes s f bytes) → length bytes ≡ length (file_bytes s f) → IsUnreadFrom s → AreSteps program_of pids s
      → RunsDifferInFile f (run program_of pids s) (run program_of pids (with_bytes s f bytes))
  unread-run [] s bytes whole other long unread steps =
      let near = near-bytes as_is s f bytes long in
      record { lines = refl; text = refl; final = same-but_file as_is f s (with_bytes s f bytes) near; as_many = near-length_of as_is f s (with_bytes s f bytes) near }
  unread-run (pid ∷ pids) s bytes whole other long unread steps =
      let x : State = (step program_of s pid).after in
      let y : State = (step program_of (with_bytes s f bytes) pid).after in
      let alike = unread-alike program_of s pid f bytes whole other long (λ p at. unread [] pid (steps.0, tt)) in
      let valid = step-keeps_valid program_of encodes (with_bytes s f bytes) pid other in
      let rest : RunsDifferInFile f (run program_of pids x) (run program_of pids (with_bytes x f (file_bytes y f))) =
      unread-run pids x (file_bytes y f) (step-keeps_valid program_of encodes s pid whole) (subst IsValid (sym alike.after) valid) alike.as_many (λ more last are. unread (pid ∷ more) last (steps.0, are)) steps.1 in
      let following : RunsDifferInFile f (run program_of pids x) (run program_of pids y) = subst (λ (z : State). RunsDifferInFile f (run program_of pids x) (run program_of pids z)) alike.after rest in
      let lines = ap₂ (λ a b. a ++ b) alike.lines following.lines in
      record { lines = lines; text = ap trace_bytes lines; final = following.final; as_many = following.as_many }

pub unread-change_nothing_reduced : UnreadFilesChangeNothingReduced
unread-change_nothing_reduced program_of limit s f bytes pids it complete has other long steps =
    unread-run program_of it.encodes f pids s bytes it.whole other long (λ pids pid are. unread-read_by_none_reduced program_of limit s f pids pid it complete has are) steps
