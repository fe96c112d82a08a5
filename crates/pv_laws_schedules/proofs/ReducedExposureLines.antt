-- The lines of `exposure` by the reduced search: it shows why a process is not closed to a file, and what its step reads.
use Rattle.std.proofs.Common.{◌≡◌, ◌∙◌, sym, ap, refl, ℕ, Bool, true, false, ◌||◌, ◌==◌, if◌then◌else◌, List, [], ◌∷◌, ◌++◌, codes, map, Option, None, Some, option_map}
use Rattle.std.specs.List.{filter_map, list_any}
use Rattle.pv_model.specs.declared.call.Call.{Call}
use Rattle.pv_model.specs.declared.open_flags.OpenFlags.{OpenFlags}
use Rattle.pv_model.specs.declared.verdict.Why.{Why}
use Rattle.pv_model.specs.Machine.{Access, accesses, of_calls, Found, Located, first_of, files_of_tree, is_file_at, calls_for, next, Next, inside, Bytes, Program, Process, State, process_at, Stepped, step, run}
use Rattle.pv_model.specs.Answers.Access.{reads, executes, writes, changes_name, reports, opens, accesses_by_open, accesses_by_success, node_opened, nodes_executed, nodes_read, nodes_reported, nodes_written, places_changed}
use Rattle.pv_model.specs.Effect.{name_of}
use Rattle.pv_model.specs.Sealed.{why_text}
use Rattle.pv_model.specs.Touch.{flags_of, has_succeeded}
use Rattle.pv_model_questions.specs.declared.finding_kind.FindingKind.TheVariants.{Leak, Read}
use Rattle.pv_model_questions.specs.Exposure.{read_observer}
use Rattle.pv_laws_states.proofs.ValidBySteps.{run-keeps_valid}
use Rattle.pv_laws_access.proofs.Verdicts.{leaks-closed}
use Rattle.pv_laws_classes.specs.Reduced.{reduced_found}
use Rattle.pv_laws_classes.specs.Shown.{Shown, ShownProcess, shown_process}
use Rattle.pv_laws_classes.proofs.ReducedProcesses.{themselves}
use Rattle.pv_laws_schedules.specs.Exposure.{located_in}
use Rattle.pv_laws_schedules.specs.ReducedExposure.{UnlistedLinesAreClosedReduced, UnlistedLinesReadNothingReduced, ListedLinesHappenReduced, SafeFilesAreClosedReduced, WitnessesLeadReduced}
use Rattle.pv_laws_schedules.proofs.ExposureLines.{IsPlaced, IsAlike, all-closed, listed-found, none-unlisted, safe-there, witnessed}
use Rattle.pv_laws_schedules.proofs.FindingReasons.{exact-reasons}
use Rattle.pv_laws_schedules.proofs.ShownStates.{AreSound, IsSeenIn, seen-reduced, reduced-sound}

-- ---- the files that a step reads are among its accesses

module _ {X : Type 0} (p : X → Bool) where
  any-left : (xs ys : List X) → list_any p ys ≡ false → list_any p (xs ++ ys) ≡ list_any p xs
  any-left [] ys none = none
  any-left (x ∷ xs) ys none = ap (λ b. p x || b) (any-left xs ys none)

  none-in-both : (xs ys : List X) → list_any p xs ≡ false → list_any p ys ≡ false → list_any p (xs ++ ys) ≡ false
  none-in-both xs ys none others = any-left xs ys others ∙ none

module _ (f : ℕ) where
  is_read : Access → Bool
  is_read (reads n) = n == f
  is_read a = false

  any-reads : (ns : List ℕ) → list_any is_read (map reads ns) ≡ list_any (λ n. n == f) ns
  unfolding is_read
  any-reads [] = refl
  any-reads (n ∷ ns) = ap (λ b. n == f || b) (any-reads ns)

  none-in-map : {X : Type 0} (access : X → Access) → ((x : X) → is_read (access x) ≡ false) → (xs : List X) → list_any is_read (map access xs) ≡ false
  none-in-map access none [] = refl
  none-in-map access none (x ∷ xs) = ap (λ b. b || list_any is_read (map access xs)) (none x) ∙ none-in-map access none xs

  module _ (s : State) (pid : ℕ) (p : Process) (call : Call) (now : Stepped) where
    none-opened : (o : Option OpenFlags) → list_any is_read (accesses_by_open now.after pid now.outcome o) ≡ false
    unfolding is_read
    none-opened None = refl
    none-opened (Some flags) = none-in-map (λ (n : ℕ). opens n flags.mode) (λ n. refl) (node_opened now.after pid now.outcome)

    abbrev names : List Access
    names = map (λ (name : ℕ × Bytes). changes_name name.0 name.1) (filter_map name_of (places_changed s p call))

    none-succeeded : (b : Bool) → list_any is_read (if b then accesses_by_success s pid p call now else []) ≡ false
    unfolding is_read
    none-succeeded true =
        none-in-both is_read (names ++ map reports (nodes_reported s p call)) (accesses_by_open now.after pid now.outcome (flags_of call))
        (none-in-both is_read names (map reports (nodes_reported s p call))
        (none-in-map (λ (name : ℕ × Bytes). changes_name name.0 name.1) (λ name. refl) (filter_map name_of (places_changed s p call)))
        (none-in-map reports (λ n. refl) (nodes_reported s p call)))
        (none-opened (flags_of call))
    none-succeeded false = refl

    abbrev read : List Access
    read = map reads (nodes_read s p call now.outcome)

    abbrev executed : List Access
    executed = map executes (nodes_executed s p call now.outcome)

    abbrev written : List Access
    written = map writes (nodes_written s p call now.outcome)

    reads-of : list_any is_read (accesses s pid p call now) ≡ list_any (λ n. n == f) (nodes_read s p call now.outcome)
    unfolding accesses is_read
    reads-of =
        any-left is_read (read ++ executed ++ written) (if has_succeeded now.outcome then accesses_by_success s pid p call now else []) (none-succeeded (has_succeeded now.outcome))
        ∙ any-left is_read (read ++ executed) written (none-in-map writes (λ n. refl) (nodes_written s p call now.outcome))
        ∙ any-left is_read read executed (none-in-map executes (λ n. refl) (nodes_executed s p call now.outcome))
        ∙ any-reads (nodes_read s p call now.outcome)

  files-read : (s : State) (pid : ℕ) (now : Stepped) → list_any is_read (of_calls accesses s pid now) ≡ list_any (λ n. n == f) (read_observer s pid now)
  files-read s pid now = by (process_at s pid)
    where
      by-next : (p : Process) (n : Next)
          → list_any is_read (Rattle.pv_model.specs.Answers.Observed.of_next accesses s pid now p n)
          ≡ list_any (λ n. n == f) (Rattle.pv_model.specs.Answers.Observed.of_next (λ s pid p call now. nodes_read s p call now.outcome) s pid now p n)
      by-next p (inside q) = refl
      by-next p (calls_for call) = reads-of s pid p call now

      by : (o : Option Process)
          → list_any is_read (Rattle.pv_model.specs.Answers.Observed.of_process accesses s pid now o)
          ≡ list_any (λ n. n == f) (Rattle.pv_model.specs.Answers.Observed.of_process (λ s pid p call now. nodes_read s p call now.outcome) s pid now o)
      by None = refl
      by (Some p) = by-next p (next p)

-- ---- a process that shows the same in a visited state

module _ (program_of : Bytes → Option Program) (s : State) (found : List Found) (sound : AreSound program_of s found)
    (pids : List ℕ) (u : State) (pid : ℕ) (p : Process) (live : process_at u pid ≡ Some p) (is_seen : IsSeenIn program_of found u pid) where
  -- the process in the visited state
  record IsShown : Type 0 where
    pub there : Located
    pub is_placed : IsPlaced program_of s found sound there
    pub same_number : there.pid ≡ pid
    pub state : there.found.state ≡ is_seen.0.state
    pub same : shown_process there.found.state there.process ≡ shown_process u p

  shown : IsShown
  shown = by (process_at is_seen.0.state pid) refl (ap (λ (x : Shown). x.process) is_seen.2 ∙ ap (option_map (shown_process u)) live)
    where
      by : (o : Option Process) → process_at is_seen.0.state pid ≡ o → option_map (shown_process is_seen.0.state) o ≡ Some (shown_process u p) → IsShown
      by None none is = cc is
      by (Some q) at is = record {
        there = record { found = is_seen.0; pid = pid; process = q };
        is_placed = record { within = is_seen.1; live = at };
        same_number = refl;
        state = refl;
        same = cc is;
      }

  leak-alike : IsAlike program_of s found sound Leak (located_in pids u pid p)
  leak-alike = record {
    there = shown.there;
    is_placed = shown.is_placed;
    tree = ap (λ (x : ShownProcess). x.tree) shown.same;
    program = ap (λ (x : ShownProcess). x.program) shown.same;
    line = ap (λ (x : ShownProcess). x.line) shown.same;
    reasons = λ f. ap (λ (x : ShownProcess). option_map (λ (why : Why). codes ", " ++ why_text why) (first_of (x.leaks f))) shown.same;
  }

  abbrev read_by : Bool → Option Bytes
  read_by b = if b then Some [] else None

  read-same : (f : ℕ) → list_any (λ n. n == f) (read_observer shown.there.found.state shown.there.pid (step program_of shown.there.found.state shown.there.pid)) ≡ list_any (λ n. n == f) (read_observer u pid (step program_of u pid))
  read-same f =
      (λ i. list_any (λ n. n == f) (read_observer (shown.state i) (shown.same_number i) (step program_of (shown.state i) (shown.same_number i))))
      ∙ sym (files-read f is_seen.0.state pid (step program_of is_seen.0.state pid))
      ∙ ap (λ (x : Shown). list_any (is_read f) x.accesses) is_seen.2
      ∙ files-read f u pid (step program_of u pid)

  read-alike : IsAlike program_of s found sound Read (located_in pids u pid p)
  read-alike = record {
    there = shown.there;
    is_placed = shown.is_placed;
    tree = ap (λ (x : ShownProcess). x.tree) shown.same;
    program = ap (λ (x : ShownProcess). x.program) shown.same;
    line = ap (λ (x : ShownProcess). x.line) shown.same;
    reasons = λ f. ap read_by (read-same f);
  }

-- ---- the laws

pub unlisted-closed_reduced : UnlistedLinesAreClosedReduced
unlisted-closed_reduced program_of limit s pids pid p f is =
    let it = is.searchable in
    let none = none-unlisted program_of s (reduced_found program_of s limit) (reduced-sound program_of limit s it) Leak (located_in pids (run program_of pids s).final pid p)
    (leak-alike program_of s (reduced_found program_of s limit) (reduced-sound program_of limit s it) pids (run program_of pids s).final pid p is.unlisted.live
    (seen-reduced program_of limit s it is.complete pids pid p is.steps is.unlisted.live)) f
    (themselves (files_of_tree (run program_of pids s).final.tree) f is.unlisted.file) is.unlisted.unlisted in
    (exact-reasons program_of (located_in pids (run program_of pids s).final pid p) f Leak (run-keeps_valid program_of it.encodes pids s it.whole) is.unlisted.live).none.0 none

pub unlisted-unread_reduced : UnlistedLinesReadNothingReduced
unlisted-unread_reduced program_of limit s pids pid p f is =
    let it = is.searchable in
    let none = none-unlisted program_of s (reduced_found program_of s limit) (reduced-sound program_of limit s it) Read (located_in pids (run program_of pids s).final pid p)
    (read-alike program_of s (reduced_found program_of s limit) (reduced-sound program_of limit s it) pids (run program_of pids s).final pid p is.unlisted.live
    (seen-reduced program_of limit s it is.complete pids pid p is.steps is.unlisted.live)) f
    (themselves (files_of_tree (run program_of pids s).final.tree) f is.unlisted.file) is.unlisted.unlisted in
    (exact-reasons program_of (located_in pids (run program_of pids s).final pid p) f Read (run-keeps_valid program_of it.encodes pids s it.whole) is.unlisted.live).none.0 none

pub listed-happen_reduced : ListedLinesHappenReduced
listed-happen_reduced program_of limit s kind program file line it is =
    listed-found program_of s (reduced_found program_of s limit) (reduced-sound program_of limit s it) kind program file line is

pub witnesses-lead_reduced : WitnessesLeadReduced
witnesses-lead_reduced program_of limit s kind group h it listed has =
    witnessed program_of s (reduced_found program_of s limit) (reduced-sound program_of limit s it) kind group listed h has

pub safe-files_reduced : SafeFilesAreClosedReduced
safe-files_reduced program_of limit s group f pids pid p it complete listed safe steps live program file =
    let found = reduced_found program_of s limit in
    let sound = reduced-sound program_of limit s it in
    let seen = shown program_of s found sound pids (run program_of pids s).final pid p live (seen-reduced program_of limit s it complete pids pid p steps live) in
    let closed = safe-there program_of s found sound group listed f safe seen.there seen.is_placed
    (ap (λ (x : ShownProcess). x.program) seen.same ∙ program) (ap (λ (x : ShownProcess). is_file_at x.tree f) seen.same ∙ file) in
    (leaks-closed (run program_of pids s).final p f (run-keeps_valid program_of it.encodes pids s it.whole).tree.well_formed).0
    (ap (λ (x : ShownProcess). x.leaks f) (sym seen.same) ∙ all-closed seen.there.found.state f closed seen.there.pid seen.there.process seen.is_placed.live)
