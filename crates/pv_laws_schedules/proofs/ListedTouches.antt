-- Each touch of each step is listed.
use Rattle.std.proofs.Common.{◌≡◌, sym, subst, ℕ, ℤ, Bool, true, false, if◌then◌else◌, List, [], ◌∷◌, map, filter_map, Option, Some, None, option_map, option_and_then, ◌⊎◌, inl, inr, ⊎_elim, refl}
use Rattle.std.specs.List.{AllByRecursion}
use Rattle.std.specs.Prelude.{option_to_list}
use Rattle.pv_model.specs.declared.call.Call.{Call}
use Rattle.pv_model.specs.declared.call.Call.TheVariants.{Chdir, Stat, Lstat, Readlink}
use Rattle.pv_model.specs.Machine.{Access, executes, changes_name, accesses, node_of_descriptor, AnswerLine, answer_line_bytes, of_next, of_process, of_calls, Bytes, node_of, name_of, open_file, Next, calls_for, next, OpenFile, Program, Process, State, process_at, step, run, flags_of, has_succeeded, places, read_file, change_file, report_node, gain_descriptor, Touches, Tree}
use Rattle.pv_model.specs.Answers.Access.{opens, reads, reports, writes, accesses_by_open, accesses_by_success, nodes_of_places, nodes_reported, places_changed}
use Rattle.pv_model.specs.Touch.{Touch, change_entry, reports_of_descriptor, reports_of_place, IsNodeOfDescriptor, IsNodeOfPlace}
use Rattle.pv_model_questions.specs.AboutFiles.{keeps_access}
use Rattle.pv_model_questions.specs.Accesses.{access_line, lines_of_access, lines_of_accesses, reported_accesses}
use Rattle.pv_laws_states.specs.States.{EncodesPrograms, IsValid}
use Rattle.pv_laws_states.proofs.ValidBySteps.{run-keeps_valid}
use Rattle.pv_laws_answers.specs.Accesses.{is_access_listed}
use Rattle.pv_laws_answers.proofs.Lists.{Among, among-flat, each-from_among, among-left, among-map, among-right, among-filter_map, any-among}
use Rattle.pv_laws_answers.proofs.CompleteObservations.{all-observed}
use Rattle.pv_laws_schedules.specs.Access.{EachAccessIsListed, keeps_touch, lines_of_touch, TouchesAreListed}
use Rattle.pv_laws_classes.proofs.ReducedProcesses.{themselves}
use Rattle.pv_laws_schedules.proofs.ReadAccess.{reads-accessed}
use Rattle.pv_laws_schedules.proofs.TouchAccesses.{name-accessed, open-accessed, write-accessed}

not-both : (call : Call) → reports_of_place call ≡ true → reports_of_descriptor call ≡ true → ⊥
not-both (Stat path) place descriptor = cc descriptor
not-both (Lstat path) place descriptor = cc descriptor
not-both (Readlink path) place descriptor = cc descriptor
not-both (Chdir path) place descriptor = cc descriptor
not-both call place descriptor = let bad : false ≡ true = place in cc bad

module _ (s : State) (p : Process) (call : Call) (n : ℕ) where
  -- a node that a successful call reports
  reported-node : ((reports_of_place call ≡ true) × IsNodeOfPlace s p call n) ⊎ ((reports_of_descriptor call ≡ true) × IsNodeOfDescriptor s p call n) → Among n (nodes_reported s p call)
  reported-node (inl (is, (place, has, node))) =
      subst (λ (b : Bool). Among n (if b then nodes_of_places s p call else (if reports_of_descriptor call then node_of_descriptor s p call else []))) (sym is)
      (among-filter_map node_of place n (places s p call) (themselves (places s p call) place has) node)
  reported-node (inr (is, (d, k, file, descriptor, opened, node))) = by (reports_of_place call) refl
    where
      own : Among n (node_of_descriptor s p call)
      own =
          subst (λ (o : Option ℤ). Among n (option_to_list (option_map (λ file. file.1.node) (option_and_then (open_file s p) o)))) (sym descriptor)
          (subst (λ (o : Option (ℕ × OpenFile)). Among n (option_to_list (option_map (λ file. file.1.node) o))) (sym opened) (inl (sym node)))

      by : (b : Bool) → reports_of_place call ≡ b → Among n (if b then nodes_of_places s p call else (if reports_of_descriptor call then node_of_descriptor s p call else []))
      by true place = absurd (not-both call place is)
      by false none = subst (λ (b : Bool). Among n (if b then node_of_descriptor s p call else [])) (sym is) own

-- the line of an access of a step that is one of a touch
pub record IsTouchLine (program_of : Bytes → Option Program) (files : List Bytes) (first : Tree) (u : State) (pid : ℕ) (touch : Touch) : Type 0 where
  pub process : Process
  pub live : process_at u pid ≡ Some process
  pub line : AnswerLine
  pub of_step : Among line (of_calls (lines_of_accesses files first) u pid (step program_of u pid))
  pub of_touch : Among line (lines_of_touch first u.tree (step program_of u pid).after.tree pid touch)

module _ (program_of : Bytes → Option Program) (files : List Bytes) (first : Tree) (u : State) (pid : ℕ) where
  abbrev after : Tree
  after = (step program_of u pid).after.tree

  abbrev line_now : Access → AnswerLine
  line_now a = access_line first u.tree after pid a

  line-of : (touch : Touch) (p : Process) (call : Call) → process_at u pid ≡ Some p → next p ≡ calls_for call → (a : Access) → Among a (accesses u pid p call (step program_of u pid))
      → keeps_access files first u.tree after a ≡ true → Among (line_now a) (lines_of_touch first u.tree after pid touch) → IsTouchLine program_of files first u pid touch
  line-of touch p call live is a has kept among = record {
    process = p;
    live = live;
    line = line_now a;
    of_step = subst (λ (o : Option Process). Among (line_now a) (of_process (lines_of_accesses files first) u pid (step program_of u pid) o)) (sym live)
        (subst (λ (n : Next). Among (line_now a) (of_next (lines_of_accesses files first) u pid (step program_of u pid) p n)) (sym is)
        (among-flat (lines_of_access files first u.tree after pid) a (line_now a) (accesses u pid p call (step program_of u pid)) has
        (subst (λ (b : Bool). Among (line_now a) (if b then line_now a ∷ [] else [])) (sym kept) (inl refl))));
    of_touch = among;
  }

  report-access : (p : Process) (call : Call) (n : ℕ) → has_succeeded (step program_of u pid).outcome ≡ true → Among n (nodes_reported u p call) → Among (reports n) (accesses u pid p call (step program_of u pid))
  unfolding accesses
  report-access p call n succeeded has =
      among-right (reports n) _ _
      (subst (λ (b : Bool). Among (reports n) (if b then accesses_by_success u pid p call (step program_of u pid) else [])) (sym succeeded)
      (among-left (reports n) _ (accesses_by_open (step program_of u pid).after pid (step program_of u pid).outcome (flags_of call))
      (among-right (reports n) (map (λ name. changes_name name.0 name.1) (filter_map name_of (places_changed u p call))) (map reports (nodes_reported u p call)) (among-map reports n (nodes_reported u p call) has))))

  -- each touch has such a line
  pub touch-accessed : EncodesPrograms program_of → IsValid u → (touch : Touch) → Touches program_of u pid touch → keeps_touch first u.tree after files touch ≡ true
      → IsTouchLine program_of files first u pid touch
  touch-accessed encodes valid (read_file f) touches kept =
      let read = reads-accessed program_of u pid f touches in
      ⊎_elim (λ has. line-of (read_file f) read.process read.call read.live read.calls (reads f) has kept (inl refl))
      (λ has. line-of (read_file f) read.process read.call read.live read.calls (executes f) has kept (inr (inl refl))) read.has
  touch-accessed encodes valid (change_file f) touches kept =
      let write = write-accessed program_of encodes u pid valid f touches in line-of (change_file f) write.process write.call write.live write.calls (writes f) write.has kept (inl refl)
  touch-accessed encodes valid (change_entry d name) touches kept =
      let change = name-accessed program_of encodes u pid valid d name touches in line-of (change_entry d name) change.process change.call change.live change.calls (changes_name d name) change.has kept (inl refl)
  touch-accessed encodes valid (report_node n) (p, call, live, is, succeeded, node) kept =
      line-of (report_node n) p call live is (reports n) (report-access p call n succeeded (reported-node u p call n node)) kept (inl refl)
  touch-accessed encodes valid (gain_descriptor n mode) touches kept =
      let gain = open-accessed program_of encodes u pid valid n mode touches in line-of (gain_descriptor n mode) gain.process gain.call gain.live gain.calls (opens n mode) gain.has kept (inl refl)

pub touches-listed : TouchesAreListed
touches-listed program_of limit s files pids pid touch it complete touches kept =
    let u = (run program_of pids s).final in
    let own = touch-accessed program_of files s.tree u pid it.encodes (run-keeps_valid program_of it.encodes pids s it.whole) touch touches kept in
    any-among (λ line. is_access_listed line (reported_accesses program_of limit s files)) own.line (lines_of_touch s.tree u.tree (step program_of u pid).after.tree pid touch) own.of_touch
    (all-observed (of_calls (lines_of_accesses files s.tree)) answer_line_bytes program_of limit s it complete pids pid own.process own.live own.line own.of_step)

-- so is each access
pub each-listed : EachAccessIsListed
each-listed program_of limit s files pids pid it complete = by (process_at t pid) refl
  where
    t : State
    t = (run program_of pids s).final

    Listed : AnswerLine → Type 0
    Listed access = is_access_listed access (reported_accesses program_of limit s files) ≡ true

    by : (o : Option Process) → process_at t pid ≡ o → AllByRecursion Listed (of_calls (lines_of_accesses files s.tree) t pid (step program_of t pid))
    by None none = subst (λ (o : Option Process). AllByRecursion Listed (of_process (lines_of_accesses files s.tree) t pid (step program_of t pid) o)) (sym none) tt
    by (Some p) lives =
        each-from_among Listed (of_calls (lines_of_accesses files s.tree) t pid (step program_of t pid))
        (λ access has. all-observed (of_calls (lines_of_accesses files s.tree)) answer_line_bytes program_of limit s it complete pids pid p lives access has)
