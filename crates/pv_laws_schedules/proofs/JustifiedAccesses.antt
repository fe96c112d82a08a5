-- Accesses are justified.
use Rattle.std.proofs.Common.{◌≡◌, ◌∙◌, sym, ap, subst, ℕ, ℤ, Bool, true, false, if◌then◌else◌, ◌==◌, List, [], ◌∷◌, ◌++◌, map, filter_map, not, Contains, Option, None, Some, Ok, option_map, option_and_then, ◌⊎◌, inl, inr, ⊎_elim, refl}
use Rattle.std.specs.Prelude.{option_to_list}
use Rattle.pv_model.specs.declared.call.Call.{Call}
use Rattle.pv_model.specs.declared.call.Call.TheVariants as TheCall
use Rattle.pv_model.specs.declared.errno.Errno.TheVariants.{ENOEXEC, ENOSYS, EBADF, EINVAL}
use Rattle.pv_model.specs.declared.judgement.Judgement.{Judgement}
use Rattle.pv_model.specs.declared.judgement.Judgement.TheVariants.{Allowed, Hidden, Denied}
use Rattle.pv_model.specs.declared.open_flags.OpenFlags.{OpenFlags}
use Rattle.pv_model.specs.declared.outcome.Cause.{Cause}
use Rattle.pv_model.specs.declared.outcome.Cause.TheVariants.{Plain, Promise as ByPromise}
use Rattle.pv_model.specs.declared.outcome.Outcome.{Outcome}
use Rattle.pv_model.specs.declared.outcome.Outcome.TheVariants.{Value, Text, Failed, Killed, Exited, Blocked, Gone}
use Rattle.pv_model.specs.declared.outcome.Taken.{Taken}
use Rattle.pv_model.specs.declared.place.Place.{Place}
use Rattle.pv_model.specs.declared.promise.Promise.{Promise}
use Rattle.pv_model.specs.Machine.{Answered, answer, answer_of, answer_where, answer_by_attempt, at_next_line, effect, Access, executes, changes_name, accesses, node_of_descriptor, Attempt, done, refused, after_walks, ◌>>=◌, ◌>>◌, refuse_if, demand, give, Bytes, open_file_for, Effect, judgement_or_refusal, name_of, node_of, open_file, place_or_refusal, end_of, needs, permissions_of_open, calls_for, next, is_lenient, missing_promise, OpenFile, Program, Process, State, process_at, reads as for_reading, writes as for_writing, Stepped, step, step_by, read_file, change_file, report_node, read_by_descriptor, read_by_execve, descriptor_of, flags_of, has_succeeded, place_found, places, Justifies, judgement, Walked, begins_walk, Walk, execve_walk, walks_of, is_unveil, gain_descriptor}
use Rattle.pv_model.specs.Answers.Access.{reads, writes, reports, opens, touch_of, accesses_by_open, accesses_by_success, node_opened, nodes_executed, nodes_of_places, nodes_read, nodes_reported, nodes_written, places_changed}
use Rattle.pv_model.specs.Touch.{change_by_descriptor, change_by_open, entry_by_place, gain_by_open, reports_of_descriptor, reports_of_place, IsNodeOfDescriptor, IsNodeOfPlace}
use Rattle.pv_laws_states.specs.Courses.{walks_in_sequence, IsOnCourse, IsStoppedEarly}
use Rattle.pv_laws_states.specs.States.{IsValid}
use Rattle.pv_laws_states.proofs.CallWalks.{calls-along}
use Rattle.pv_laws_states.proofs.CallOutcomes.{at_call}
use Rattle.pv_laws_states.proofs.CallRemainders
use Rattle.pv_laws_access.proofs.ProcessesAfterEnds.{step-is}
use Rattle.pv_laws_access.proofs.CallEffects.{open_file_for-is}
use Rattle.pv_laws_access.proofs.JustifiedReports.{reporting-justified}
use Rattle.pv_laws_access.proofs.NextNames.{answer-does}
use Rattle.pv_laws_access.proofs.ClosedProcesses.{found-ok, one-walk}
use Rattle.pv_laws_answers.proofs.AskingCalls.{along-one}
use Rattle.pv_laws_answers.proofs.CompleteSearches.{among-contains}
use Rattle.pv_laws_answers.proofs.Lists.{Among, among-either, map-among, filter_map-among}
use Rattle.pv_laws_schedules.specs.Access.{AccessesAreJustified}
use Rattle.pv_laws_schedules.proofs.StatesAfterSuccess.{done-names, opened-node}
use Rattle.pv_laws_schedules.proofs.NamedPlaces.{changed-place}
use Rattle.pv_laws_schedules.proofs.SuccessfulCalls.{is-done}
use Rattle.pv_laws_classes.proofs.ReducedProcesses.{themselves}

-- an outcome that no missing promise has
abbrev passes : Outcome → Bool
passes (Value n) = true
passes (Text taken) = true
passes (Failed ENOEXEC cause) = true
passes o = false

-- a call that succeeds has such an outcome
passed : (o : Outcome) → has_succeeded o ≡ true → passes o ≡ true
passed (Value n) succeeded = refl
passed (Text taken) succeeded = refl
passed (Failed errno cause) succeeded = cc succeeded
passed (Killed promise) succeeded = cc succeeded
passed Exited succeeded = cc succeeded
passed Blocked succeeded = cc succeeded
passed Gone succeeded = cc succeeded

-- an outcome of an execve that found its file
abbrev is_execution : Outcome → Bool
is_execution (Value n) = true
is_execution (Failed ENOEXEC cause) = true
is_execution o = false

module _ (program_of : Bytes → Option Program) (s : State) (pid : ℕ) (p : Process) (call : Call) (at : process_at s pid ≡ Some p) (is : next p ≡ calls_for call) where
  abbrev x : State
  x = at_call s pid p

  abbrev now : Process
  now = at_next_line p

  abbrev e : Attempt Effect
  e = effect program_of x pid now call

  abbrev o : Outcome
  o = (step program_of s pid).outcome

  outcome-is : o ≡ (answer program_of s pid call).outcome
  outcome-is = ap (λ (w : Stepped). w.outcome) (step-is program_of s pid p at ∙ ap (step_by program_of s pid p) is)

  -- the promises of such a call are held
  held-by : passes o ≡ true → missing_promise p.promises (needs call) ≡ None
  unfolding answer
  held-by passed = by (missing_promise p.promises (needs call)) refl
    where
      where-is : (m : Option Promise) → missing_promise p.promises (needs call) ≡ m → o ≡ (answer_where program_of s x pid now call m).outcome
      where-is m lacks = outcome-is ∙ ap (λ (q : Option Process). (answer_of program_of s pid call q).outcome) at ∙ ap (λ m. (answer_where program_of s x pid now call m).outcome) lacks

      lost : (b : Promise) (l : Bool) → is_lenient p.promises ≡ l → missing_promise p.promises (needs call) ≡ Some b → ⊥
      lost b true lenient lacks =
          let failed : o ≡ Failed ENOSYS (ByPromise b) = where-is (Some b) lacks ∙ ap (λ (l : Bool). (if l then answer_by_attempt s x pid now (refused 0 ENOSYS (ByPromise b)) else record { after = Rattle.pv_model.specs.Held.collect (Rattle.pv_model.specs.Calls.Processes.end_process s pid now 6); outcome = Killed b; walks = 0 }).outcome) lenient in
          let bad : true ≡ false = sym passed ∙ ap passes failed in cc bad
      lost b false strict lacks =
          let killed : o ≡ Killed b = where-is (Some b) lacks ∙ ap (λ (l : Bool). (if l then answer_by_attempt s x pid now (refused 0 ENOSYS (ByPromise b)) else record { after = Rattle.pv_model.specs.Held.collect (Rattle.pv_model.specs.Calls.Processes.end_process s pid now 6); outcome = Killed b; walks = 0 }).outcome) strict in
          let bad : true ≡ false = sym passed ∙ ap passes killed in cc bad

      by : (m : Option Promise) → missing_promise p.promises (needs call) ≡ m → missing_promise p.promises (needs call) ≡ None
      by None held = held
      by (Some b) lacks = absurd (lost b (is_lenient p.promises) refl lacks)

  module _ (passed : passes o ≡ true) where
    -- the outcome is that of the effect
    outcome-by : (a : Attempt Effect) → e ≡ a → o ≡ (answer_by_attempt s x pid now a).outcome
    outcome-by a same = outcome-is ∙ ap (λ (w : Answered). w.outcome) (answer-does program_of s pid p call at (held-by passed) ∙ ap (answer_by_attempt s x pid now) same)

    -- the place of the one walk of a call that returns a value is allowed
    allowed-one : is_unveil call ≡ false → (w : Walk) → walks_of call ≡ w ∷ [] → (n : ℕ) → o ≡ Value n → (place : Place) → Contains (places s p call) place → judgement s.tree p.table place w.needed ≡ Allowed
    allowed-one plain w one n value place has = by e refl
      where
        ends : end_of s p w ≡ Ok place
        ends = found-ok (end_of s p w) place (one-walk (place_found (end_of s p w)) place (subst (λ (ws : List Walk). Contains (filter_map (λ v. place_found (end_of s p v)) ws) place) one has))

        along-is : walks_in_sequence x now (walks_of call) ≡ after_walks 1 (judgement_or_refusal (judgement s.tree p.table place w.needed) >> give tt)
        along-is = ap (walks_in_sequence x now) one ∙ along-one x now w [] place ends

        of : (j : Judgement) → judgement s.tree p.table place w.needed ≡ j → (walks : ℕ) (v : Effect) → IsOnCourse (after_walks 1 (judgement_or_refusal j >> give tt)) (done walks v) → judgement s.tree p.table place w.needed ≡ Allowed
        of Allowed judged walks v goes = judged
        of Hidden judged walks v goes = cc goes
        of (Denied k) judged walks v goes = cc goes

        by : (a : Attempt Effect) → e ≡ a → judgement s.tree p.table place w.needed ≡ Allowed
        by (refused walks errno cause) same = let bad : Value n ≡ Failed errno cause = sym value ∙ outcome-by (refused walks errno cause) same in cc bad
        by (done walks v) same =
            ⊎_elim (λ stopped. absurd (subst (λ (a : Attempt Effect). IsStoppedEarly a) same stopped))
            (λ goes. of (judgement s.tree p.table place w.needed) refl walks v (subst (λ (a : Attempt Effect). IsOnCourse (after_walks 1 (judgement_or_refusal (judgement s.tree p.table place w.needed) >> give tt)) a) same (subst (λ c. IsOnCourse c e) along-is goes)))
            (calls-along program_of x pid now call plain)

-- ---- the file of a descriptor

-- a node of a descriptor, with its open file
node-of : (s : State) (p : Process) (call : Call) (d : ℤ) (f : ℕ) → descriptor_of call ≡ Some d → (k : ℕ) (file : OpenFile) → open_file s p d ≡ Some (k, file) → Among f (node_of_descriptor s p call) → file.node ≡ f
node-of s p call d f descriptor k file opened h = by (subst (λ (q : Option (ℕ × OpenFile)). Among f (option_to_list (option_map (λ file. file.1.node) q))) opened (subst (λ (c : Option ℤ). Among f (option_to_list (option_map (λ file. file.1.node) (option_and_then (open_file s p) c)))) descriptor h))
  where
    by : Among f (file.node ∷ []) → file.node ≡ f
    by (inl same) = sym same
    by (inr none) = absurd none

module _ (program_of : Bytes → Option Program) (s : State) (pid : ℕ) (p : Process) (at : process_at s pid ≡ Some p) where
  abbrev y : State
  y = at_call s pid p

  abbrev me : Process
  me = at_next_line p

  -- a read that returns bytes is by a descriptor that is open for reading
  read-justified : (d n : ℤ) → next p ≡ calls_for (TheCall.Read d n) → passes (step program_of s pid).outcome ≡ true → (taken : Taken) → (step program_of s pid).outcome ≡ Text taken → (f : ℕ)
      → Among f (node_of_descriptor s p (TheCall.Read d n)) → Justifies s p (TheCall.Read d n) (read_file f)
  unfolding effect
  read-justified d n is passed taken text f h = by (open_file_for y pid me for_reading d) refl
    where
      by : (q : Option (ℕ × OpenFile)) → open_file_for y pid me for_reading d ≡ q → Justifies s p (TheCall.Read d n) (read_file f)
      by None none =
          let failed = outcome-by program_of s pid p (TheCall.Read d n) at is passed (refused 0 EBADF Plain) (ap (λ q. demand EBADF q >>= CallRemainders.read_1 y pid me n) none) in
          let bad = sym text ∙ failed in cc bad
      by (Some (k, file)) some =
          let both = open_file_for-is y pid me for_reading d k file some in
          read_by_descriptor f (d, k, file, refl, both.0, node-of s p (TheCall.Read d n) d f refl k file both.0 h, both.1)

  -- a write is by a descriptor that is open for writing
  write-justified : (d n : ℤ) → next p ≡ calls_for (TheCall.Write d n) → passes (step program_of s pid).outcome ≡ true → (count : ℕ) → (step program_of s pid).outcome ≡ Value count → (f : ℕ)
      → Among f (node_of_descriptor s p (TheCall.Write d n)) → Justifies s p (TheCall.Write d n) (change_file f)
  unfolding effect
  write-justified d n is passed count value f h = by (open_file_for y pid me for_writing d) refl
    where
      by : (q : Option (ℕ × OpenFile)) → open_file_for y pid me for_writing d ≡ q → Justifies s p (TheCall.Write d n) (change_file f)
      by None none =
          let failed = outcome-by program_of s pid p (TheCall.Write d n) at is passed (refused 0 EBADF Plain) (ap (λ q. demand EBADF q >>= CallRemainders.write_1 y pid me n) none) in
          let bad = sym value ∙ failed in cc bad
      by (Some (k, file)) some =
          let both = open_file_for-is y pid me for_writing d k file some in
          change_by_descriptor f (d, k, file, refl, both.0, node-of s p (TheCall.Write d n) d f refl k file both.0 h, both.1)

  cut-justified : (d n : ℤ) → next p ≡ calls_for (TheCall.Ftruncate d n) → passes (step program_of s pid).outcome ≡ true → (count : ℕ) → (step program_of s pid).outcome ≡ Value count → (f : ℕ)
      → Among f (node_of_descriptor s p (TheCall.Ftruncate d n)) → Justifies s p (TheCall.Ftruncate d n) (change_file f)
  unfolding effect
  cut-justified d n is passed count value f h = by (open_file y me d) refl
    where
      of : (k : ℕ) (file : OpenFile) → open_file y me d ≡ Some (k, file) → (b : Bool) → for_writing file.mode ≡ b → Justifies s p (TheCall.Ftruncate d n) (change_file f)
      of k file some true mode = change_by_descriptor f (d, k, file, refl, some, node-of s p (TheCall.Ftruncate d n) d f refl k file some h, mode)
      of k file some false mode =
          let failed = outcome-by program_of s pid p (TheCall.Ftruncate d n) at is passed (refused 0 EINVAL Plain)
          (ap (λ q. demand EBADF q >>= CallRemainders.ftruncate_1 y pid me n) some ∙ ap (λ (b : Bool). after_walks 0 (refuse_if EINVAL (not b) >> CallRemainders.ftruncate_2 y pid me n file)) mode) in
          let bad = sym value ∙ failed in cc bad

      by : (q : Option (ℕ × OpenFile)) → open_file y me d ≡ q → Justifies s p (TheCall.Ftruncate d n) (change_file f)
      by None none =
          let failed = outcome-by program_of s pid p (TheCall.Ftruncate d n) at is passed (refused 0 EBADF Plain) (ap (λ q. demand EBADF q >>= CallRemainders.ftruncate_1 y pid me n) none) in
          let bad = sym value ∙ failed in cc bad
      by (Some (k, file)) some = of k file some (for_writing file.mode) refl

  -- an execve whose file was found is allowed
  module _ (path : Bytes) (is : next p ≡ calls_for (TheCall.Execve path)) (passed : passes (step program_of s pid).outcome ≡ true) (place : Place) (has : Contains (places s p (TheCall.Execve path)) place) where
    abbrev walks : ℕ
    walks = if begins_walk path then 1 else 0

    ends : end_of s p (execve_walk path) ≡ Ok place
    ends = found-ok (end_of s p (execve_walk path)) place (one-walk (place_found (end_of s p (execve_walk path))) place has)

    effect-of : (j : Judgement) → judgement s.tree p.table place (execve_walk path).needed ≡ j
        → effect program_of y pid me (TheCall.Execve path) ≡ after_walks walks (judgement_or_refusal j >> CallRemainders.execve_1 y pid me program_of place)
    unfolding effect
    effect-of j judged =
        ap (λ (r : Walked). place_or_refusal walks r >>= (λ place. judgement_or_refusal (judgement y.tree me.table place (execve_walk path).needed) >> CallRemainders.execve_1 y pid me program_of place)) ends
        ∙ ap (λ (j : Judgement). after_walks walks (judgement_or_refusal j >> CallRemainders.execve_1 y pid me program_of place)) judged

    execve-allowed : is_execution (step program_of s pid).outcome ≡ true → judgement s.tree p.table place (execve_walk path).needed ≡ Allowed
    execve-allowed execution = by (judgement s.tree p.table place (execve_walk path).needed) refl
      where
        by : (j : Judgement) → judgement s.tree p.table place (execve_walk path).needed ≡ j → judgement s.tree p.table place (execve_walk path).needed ≡ Allowed
        by Allowed judged = judged
        by Hidden judged =
            let failed = outcome-by program_of s pid p (TheCall.Execve path) at is passed (after_walks walks (judgement_or_refusal Hidden >> CallRemainders.execve_1 y pid me program_of place)) (effect-of Hidden judged) in
            let bad : true ≡ false = sym execution ∙ ap is_execution failed in cc bad
        by (Denied k) judged =
            let failed = outcome-by program_of s pid p (TheCall.Execve path) at is passed (after_walks walks (judgement_or_refusal (Denied k) >> CallRemainders.execve_1 y pid me program_of place)) (effect-of (Denied k) judged) in
            let bad : true ≡ false = sym execution ∙ ap is_execution failed in cc bad

    execve-justified : is_execution (step program_of s pid).outcome ≡ true → (f : ℕ) → node_of place ≡ Some f → Justifies s p (TheCall.Execve path) (read_file f)
    execve-justified execution f node = read_by_execve path place f refl (has, execve-allowed execution) node

-- ---- all accesses

module _ (program_of : Bytes → Option Program) (s : State) (pid : ℕ) (p : Process) (at : process_at s pid ≡ Some p) where
  abbrev IsJust : Call → Access → Type 0
  IsJust call a = (missing_promise p.promises (needs call) ≡ None) × Justifies s p call (touch_of a)

  abbrev outcome : Outcome
  outcome = (step program_of s pid).outcome

  -- the file of the place of an execve
  by-place : (path : Bytes) → next p ≡ calls_for (TheCall.Execve path) → passes outcome ≡ true → (f : ℕ) → Among f (nodes_of_places s p (TheCall.Execve path))
      → ((n : ℕ) × (outcome ≡ Value n)) ⊎ ((cause : Cause) × (outcome ≡ Failed ENOEXEC cause)) → Justifies s p (TheCall.Execve path) (read_file f)
  by-place path is passed f h how =
      let place = filter_map-among node_of f (places s p (TheCall.Execve path)) h in
      let has = among-contains place.0 (places s p (TheCall.Execve path)) place.1 in
      execve-justified program_of s pid p at path is passed place.0 has (execution how) f place.2
    where
      execution : ((n : ℕ) × (outcome ≡ Value n)) ⊎ ((cause : Cause) × (outcome ≡ Failed ENOEXEC cause)) → is_execution outcome ≡ true
      execution (inl (n, value)) = ap is_execution value
      execution (inr (cause, failed)) = ap is_execution failed

  read-by : (call : Call) → next p ≡ calls_for call → (result : Outcome) → outcome ≡ result → (f : ℕ) → Among f (nodes_read s p call result) → IsJust call (reads f)
  read-by (TheCall.Read d n) is (Text taken) out f h = by (taken.len == 0) h
    where
      by : (b : Bool) → Among f (if b then [] else node_of_descriptor s p (TheCall.Read d n)) → IsJust (TheCall.Read d n) (reads f)
      by true none = absurd none
      by false has = (held-by program_of s pid p (TheCall.Read d n) at is (ap passes out), read-justified program_of s pid p at d n is (ap passes out) taken out f has)
  read-by (TheCall.Execve path) is (Failed ENOEXEC cause) out f h =
      (held-by program_of s pid p (TheCall.Execve path) at is (ap passes out), by-place path is (ap passes out) f h (inr (cause, out)))
  read-by call is result out f h = absurd h

  execute-by : (call : Call) → next p ≡ calls_for call → (result : Outcome) → outcome ≡ result → (f : ℕ) → Among f (nodes_executed s p call result) → IsJust call (executes f)
  execute-by (TheCall.Execve path) is (Value n) out f h = (held-by program_of s pid p (TheCall.Execve path) at is (ap passes out), by-place path is (ap passes out) f h (inl (n, out)))
  execute-by call is result out f h = absurd h

  -- the file of an open that truncates
  by-open : (call : Call) → next p ≡ calls_for call → is_unveil call ≡ false → (w : Walk) → walks_of call ≡ w ∷ [] → (flags : OpenFlags) → flags_of call ≡ Some flags → w.needed ≡ permissions_of_open flags
      → (n : ℕ) → outcome ≡ Value n → (f : ℕ) → Among f (if flags.truncate then nodes_of_places s p call else []) → IsJust call (writes f)
  by-open call is plain w one flags has_flags needed n out f h = of flags.truncate refl h
    where
      of : (b : Bool) → flags.truncate ≡ b → Among f (if b then nodes_of_places s p call else []) → IsJust call (writes f)
      of false none k = absurd k
      of true truncates k =
          let place = filter_map-among node_of f (places s p call) k in
          let has = among-contains place.0 (places s p call) place.1 in
          let allowed = allowed-one program_of s pid p call at is (ap passes out) plain w one n out place.0 has in (
            held-by program_of s pid p call at is (ap passes out),
            change_by_open flags place.0 f has_flags truncates (has, ap (judgement s.tree p.table place.0) (sym needed) ∙ allowed) place.2,
          )

  write-by : (call : Call) → next p ≡ calls_for call → (result : Outcome) → outcome ≡ result → (f : ℕ) → Among f (nodes_written s p call result) → IsJust call (writes f)
  write-by (TheCall.Write d n) is (Value count) out f h = by (count == 0) h
    where
      by : (b : Bool) → Among f (if b then [] else node_of_descriptor s p (TheCall.Write d n)) → IsJust (TheCall.Write d n) (writes f)
      by true none = absurd none
      by false has = (held-by program_of s pid p (TheCall.Write d n) at is (ap passes out), write-justified program_of s pid p at d n is (ap passes out) count out f has)
  write-by (TheCall.Ftruncate d n) is (Value count) out f h =
      (held-by program_of s pid p (TheCall.Ftruncate d n) at is (ap passes out), cut-justified program_of s pid p at d n is (ap passes out) count out f h)
  write-by (TheCall.Open path flags) is (Value n) out f h = by-open (TheCall.Open path flags) is refl _ refl flags refl refl n out f h
  write-by (TheCall.OpenAt start path flags) is (Value n) out f h = by-open (TheCall.OpenAt start path flags) is refl _ refl flags refl refl n out f h
  write-by call is (Value n) out f h = absurd h
  write-by (TheCall.Write d n) is (Text taken) out f h = absurd h
  write-by call is (Text taken) out f h = absurd h
  write-by (TheCall.Write d n) is (Failed errno cause) out f h = absurd h
  write-by call is (Failed errno cause) out f h = absurd h
  write-by (TheCall.Write d n) is (Killed promise) out f h = absurd h
  write-by call is (Killed promise) out f h = absurd h
  write-by (TheCall.Write d n) is Exited out f h = absurd h
  write-by call is Exited out f h = absurd h
  write-by (TheCall.Write d n) is Blocked out f h = absurd h
  write-by call is Blocked out f h = absurd h
  write-by (TheCall.Write d n) is Gone out f h = absurd h
  write-by call is Gone out f h = absurd h

  -- a reported node is a touch
  report-by : IsValid s → (call : Call) → next p ≡ calls_for call → has_succeeded outcome ≡ true → (n : ℕ) → Among n (nodes_reported s p call) → IsJust call (reports n)
  report-by whole call is succeeded n h =
      let just = reporting-justified program_of s pid n whole (p, call, at, is, succeeded, touched (reports_of_place call) refl (reports_of_descriptor call) refl h) in
      let who : just.0 ≡ p = let both : Some just.0 ≡ Some p = sym just.2 ∙ at in cc both in
      let what : just.1 ≡ call = let both : calls_for just.1 ≡ calls_for call = sym just.3 ∙ ap next who ∙ is in cc both in
      transport just.0 just.1 who what just.4 just.5
    where
      transport : (q : Process) (c : Call) → q ≡ p → c ≡ call → missing_promise q.promises (needs c) ≡ None → Justifies s q c (report_node n) → IsJust call (reports n)
      transport q c who what held just = (
        ap (λ (q : Process). missing_promise q.promises (needs call)) (sym who) ∙ ap (λ (c : Call). missing_promise q.promises (needs c)) (sym what) ∙ held,
        subst (λ (q : Process). Justifies s q call (report_node n)) who (subst (λ (c : Call). Justifies s q c (report_node n)) what just),
      )

      descriptor : (c : Option ℤ) → descriptor_of call ≡ c → Among n (option_to_list (option_map (λ file. file.1.node) (option_and_then (open_file s p) c))) → IsNodeOfDescriptor s p call n
      descriptor None none k = absurd k
      descriptor (Some d) some k = of (open_file s p d) refl k
        where
          of : (q : Option (ℕ × OpenFile)) → open_file s p d ≡ q → Among n (option_to_list (option_map (λ file. file.1.node) q)) → IsNodeOfDescriptor s p call n
          of None none k = absurd k
          of (Some (j, file)) opened (inl same) = (d, j, file, some, opened, sym same)
          of (Some (j, file)) opened (inr none) = absurd none

      touched : (b : Bool) → reports_of_place call ≡ b → (c : Bool) → reports_of_descriptor call ≡ c → Among n (if b then nodes_of_places s p call else (if c then node_of_descriptor s p call else []))
          → ((reports_of_place call ≡ true) × IsNodeOfPlace s p call n) ⊎ ((reports_of_descriptor call ≡ true) × IsNodeOfDescriptor s p call n)
      touched true place c descriptors k =
          let found = filter_map-among node_of n (places s p call) k in inl (place, (found.0, among-contains found.0 (places s p call) found.1, found.2))
      touched false place true descriptors k = inr (descriptors, descriptor (descriptor_of call) refl k)
      touched false place false descriptors k = absurd k

  -- a changed name is at a place that is allowed for c
  name-by : IsValid s → (call : Call) → next p ≡ calls_for call → has_succeeded outcome ≡ true → (d : ℕ) (name : Bytes) → Among (d, name) (filter_map name_of (places_changed s p call)) → IsJust call (changes_name d name)
  name-by whole call is succeeded d name h =
      let held = held-by program_of s pid p call at is (passed outcome succeeded) in
      let done = is-done program_of s pid p call at is held succeeded in
      let place = filter_map-among name_of (d, name) (places_changed s p call) h in
      let has = among-contains place.0 (places s p call) (changed-place s pid p call place.0 place.1) in
      (held, entry_by_place place.0 d name (has, (done-names program_of s pid whole p call at is held done).allows place.0 place.1) place.2)

  -- an opened node is at the place of the open, or is new
  open-by : IsValid s → (call : Call) → next p ≡ calls_for call → has_succeeded outcome ≡ true → (flags : OpenFlags) → flags_of call ≡ Some flags → (n : ℕ)
      → Among n (node_opened (step program_of s pid).after pid outcome) → IsJust call (opens n flags.mode)
  open-by whole call is succeeded flags flagged n h =
      let held = held-by program_of s pid p call at is (passed outcome succeeded) in
      let done = is-done program_of s pid p call at is held succeeded in
      let o = (done-names program_of s pid whole p call at is held done).opens flags flagged in
      let own : o.place ≡ o.place = refl in
      let has = among-contains o.place (places s p call) (subst (λ (ps : List Place). Among o.place ps) (sym o.only) (inl own)) in
      let same : n ≡ o.node = only-one (subst (Among n) (opened-node program_of s pid whole p call at is held done flags o) h) in
      (held, subst (λ (m : ℕ). Justifies s p call (gain_descriptor m flags.mode)) (sym same) (gain_by_open flags o.place o.node flags.mode flagged refl (has, o.allowed) o.which))
    where
      only-one : {m : ℕ} → Among n (m ∷ []) → n ≡ m
      only-one (inl same) = same
      only-one (inr none) = absurd none

  access-just : IsValid s → (call : Call) → next p ≡ calls_for call → (a : Access) → Among a (accesses s pid p call (step program_of s pid)) → IsJust call a
  unfolding accesses
  access-just whole call is a h =
      ⊎_elim
      (λ files. ⊎_elim
      (λ runs. ⊎_elim
      (λ read. let f = map-among reads a (nodes_read s p call outcome) read in subst (IsJust call) (sym f.2) (read-by call is outcome refl f.0 f.1))
      (λ run. let f = map-among executes a (nodes_executed s p call outcome) run in subst (IsJust call) (sym f.2) (execute-by call is outcome refl f.0 f.1))
      (among-either a (map reads (nodes_read s p call outcome)) (map executes (nodes_executed s p call outcome)) runs))
      (λ written. let f = map-among writes a (nodes_written s p call outcome) written in subst (IsJust call) (sym f.2) (write-by call is outcome refl f.0 f.1))
      (among-either a (map reads (nodes_read s p call outcome) ++ map executes (nodes_executed s p call outcome)) (map writes (nodes_written s p call outcome)) files))
      (λ others. by (has_succeeded outcome) refl others)
      (among-either a (map reads (nodes_read s p call outcome) ++ map executes (nodes_executed s p call outcome) ++ map writes (nodes_written s p call outcome)) _ h)
    where
      named : has_succeeded outcome ≡ true → Among a (map (λ name. changes_name name.0 name.1) (filter_map name_of (places_changed s p call))) → IsJust call a
      named succeeded k =
          let name = map-among (λ (name : ℕ × Bytes). changes_name name.0 name.1) a (filter_map name_of (places_changed s p call)) k in
          subst (IsJust call) (sym name.2) (name-by whole call is succeeded name.0.0 name.0.1 name.1)

      opened : has_succeeded outcome ≡ true → Among a (accesses_by_open (step program_of s pid).after pid outcome (flags_of call)) → IsJust call a
      opened succeeded k = of (flags_of call) refl k
        where
          of : (c : Option OpenFlags) → flags_of call ≡ c → Among a (accesses_by_open (step program_of s pid).after pid outcome c) → IsJust call a
          of None flagged none = absurd none
          of (Some flags) flagged some =
              let n = map-among (λ (n : ℕ). opens n flags.mode) a (node_opened (step program_of s pid).after pid outcome) some in
              subst (IsJust call) (sym n.2) (open-by whole call is succeeded flags flagged n.0 n.1)

      reported : has_succeeded outcome ≡ true → Among a (map reports (nodes_reported s p call)) → IsJust call a
      reported succeeded k = let n = map-among reports a (nodes_reported s p call) k in subst (IsJust call) (sym n.2) (report-by whole call is succeeded n.0 n.1)

      by : (b : Bool) → has_succeeded outcome ≡ b → Among a (if b then accesses_by_success s pid p call (step program_of s pid) else []) → IsJust call a
      by false failed none = absurd none
      by true succeeded k =
          ⊎_elim
          (λ front. ⊎_elim (named succeeded) (reported succeeded) (among-either a (map (λ name. changes_name name.0 name.1) (filter_map name_of (places_changed s p call))) (map reports (nodes_reported s p call)) front))
          (opened succeeded)
          (among-either a (map (λ name. changes_name name.0 name.1) (filter_map name_of (places_changed s p call)) ++ map reports (nodes_reported s p call)) (accesses_by_open (step program_of s pid).after pid outcome (flags_of call)) k)

pub accesses-justified : AccessesAreJustified
accesses-justified program_of s pid p call a whole at is has =
    access-just program_of s pid p at whole call is a (themselves (accesses s pid p call (step program_of s pid)) a has)
