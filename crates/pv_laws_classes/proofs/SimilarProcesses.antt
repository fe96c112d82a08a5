-- A process that looks the same in two states: the accesses of its next step, and why it is not closed to a file.
use Rattle.std.proofs.Common.{◌≡◌, ◌∙◌, sym, ap, ap₂, subst, ℕ, ℤ, pos, negsuc, Bool, if◌then◌else◌, ◌==◌, List, [], ◌∷◌, ◌++◌, map, filter, filter_map, take, Option, None, Some, is_none, option_map, option_and_then, option_to_list, refl}
use Rattle.pv_model.specs.declared.call.Call.{Call}
use Rattle.pv_model.specs.declared.call.Call.TheVariants.{Execve, Read, Unveil, Write, Ftruncate}
use Rattle.pv_model.specs.declared.call.Start.{Start}
use Rattle.pv_model.specs.declared.call.Start.TheVariants.{WorkingDirectory, Descriptor as AtDescriptor}
use Rattle.pv_model.specs.declared.errno.Errno.TheVariants.{ENOEXEC}
use Rattle.pv_model.specs.declared.open_flags.Mode.{Mode}
use Rattle.pv_model.specs.declared.open_flags.OpenFlags.{OpenFlags}
use Rattle.pv_model.specs.declared.outcome.Outcome.{Outcome}
use Rattle.pv_model.specs.declared.outcome.Outcome.TheVariants.{Value, Text, Failed}
use Rattle.pv_model.specs.declared.place.Place.{Place}
use Rattle.pv_model.specs.declared.promise.Promise.TheVariants.{Rpath, Cpath, Exec as ExecPromise}
use Rattle.pv_model.specs.declared.verdict.Why.TheVariants.{Reads}
use Rattle.pv_model.specs.Answers.Access
use Rattle.pv_model.specs.Machine.{judged_walks, Bytes, node_of, name_of, open_file_of, open_file, directory_of_file, start_directory, end_of, at_number, numbered, Next, inside, calls_for, next, OpenFile, Descriptor, Process, ProcessRecord, State, reads, process_at, Stepped, descriptor_of, flags_of, place_found, places, has_succeeded, Table, Tree, is_absolute, resolve, Walk, walks_of}
use Rattle.pv_model.specs.Answers.Needs.{judged, judged_at}
use Rattle.pv_model.specs.Sealed
use Rattle.pv_model.specs.Touch.{reports_of_place, reports_of_descriptor}
use Rattle.pv_model_questions.specs.Accesses.{lines_of_accesses, lines_of_kept}
use Rattle.pv_laws_classes.specs.Liveness.{with_values}
use Rattle.pv_laws_classes.specs.Shown.{shown_process}

-- ---- states in which a process looks the same

-- two processes are the same except for registers and buffer
abbrev pub AreAlike : Option Process → Option Process → Type 0
AreAlike None o = o ≡ None
AreAlike (Some p) o = (registers : List ℤ) × (buffer : Bytes) × (o ≡ Some (with_values registers buffer p))

-- two states have the same tree and open files, and a process is the same in both but for registers and buffer
pub record LooksAlike (pid : ℕ) (s t : State) : Type 0 where
  pub tree : t.tree ≡ s.tree
  pub files : t.files ≡ s.files
  pub process : AreAlike (process_at s pid) (process_at t pid)

-- a property of the state with other processes holds for a state with the same tree and open files
pub by-fields : (P : State → Type 0) (s t : State) → t.tree ≡ s.tree → t.files ≡ s.files → P (record s { processes = t.processes; last_process = t.last_process }) → P t
by-fields P s t tree files is = subst P (λ i. record { tree = sym tree i; files = sym files i; processes = t.processes; last_process = t.last_process }) is

-- the call that a process makes next, if it makes one
abbrev pub call_in : Next → Option Call
call_in (inside q) = None
call_in (calls_for call) = Some call

abbrev pub call_next : Option Process → Option Call
call_next None = None
call_next (Some p) = call_in (next p)

-- ---- the nodes and names of a call, and the reasons why a process is not closed to a file

module _ (s : State) (ps : List (ℕ × ProcessRecord)) (last : ℕ) (p : Process) (rs : List ℤ) (bs : Bytes) where
  abbrev t : State
  t = record s { processes = ps; last_process = last }

  abbrev you : Process
  you = with_values rs bs p

  opened-of : (o : Option Descriptor) → open_file_of t o ≡ open_file_of s o
  opened-of None = refl
  opened-of (Some d) = refl

  opened-same : (d : ℤ) → open_file t you d ≡ open_file s p d
  opened-same (pos d) = opened-of (at_number p.descriptors d)
  opened-same (negsuc d) = refl

  directory-same : (o : Option (ℕ × OpenFile)) → directory_of_file you o ≡ directory_of_file p o
  directory-same None = refl
  directory-same (Some (k, file)) = refl

  start-same : (start : Start) (path : Bytes) → start_directory t you start path ≡ start_directory s p start path
  start-same WorkingDirectory path = refl
  start-same (AtDescriptor d) path = ap (λ n. if is_absolute path then p.directory else n) (directory-same (open_file t you d) ∙ ap (directory_of_file p) (opened-same d))

  found-same : (w : Walk) → place_found (end_of t you w) ≡ place_found (end_of s p w)
  found-same w = ap (λ n. place_found (resolve s.tree w.follow n w.path)) (start-same w.start w.path)

  places-same : (call : Call) → places t you call ≡ places s p call
  places-same call = λ i. filter_map (λ (w : Walk). found-same w i) (walks_of call)

  abbrev node_in : Option (ℕ × OpenFile) → List ℕ
  node_in o = option_to_list (option_map (λ (file : ℕ × OpenFile). file.1.node) o)

  descriptor-same : (call : Call) → Access.node_of_descriptor t you call ≡ Access.node_of_descriptor s p call
  descriptor-same call = by (descriptor_of call)
    where
      by : (o : Option ℤ) → node_in (option_and_then (open_file t you) o) ≡ node_in (option_and_then (open_file s p) o)
      by None = refl
      by (Some d) = ap node_in (opened-same d)

  nodes-same : (call : Call) → Access.nodes_of_places t you call ≡ Access.nodes_of_places s p call
  nodes-same call = ap (filter_map node_of) (places-same call)

  read-same : (call : Call) (outcome : Outcome) → Access.nodes_read t you call outcome ≡ Access.nodes_read s p call outcome
  read-same (Read d n) (Text taken) = ap (λ ns. if taken.len == 0 then [] else ns) (descriptor-same (Read d n))
  read-same (Execve path) (Failed ENOEXEC cause) = nodes-same (Execve path)
  read-same call outcome = refl

  executed-same : (call : Call) (outcome : Outcome) → Access.nodes_executed t you call outcome ≡ Access.nodes_executed s p call outcome
  executed-same (Execve path) (Value n) = nodes-same (Execve path)
  executed-same call outcome = refl

  written-same : (call : Call) (outcome : Outcome) → Access.nodes_written t you call outcome ≡ Access.nodes_written s p call outcome
  written-same (Write d n) (Value count) = ap (λ ns. if count == 0 then [] else ns) (descriptor-same (Write d n))
  written-same (Ftruncate d n) (Value count) = descriptor-same (Ftruncate d n)
  written-same call (Value n) = ap (Access.if_truncated (flags_of call)) (nodes-same call)
  written-same call outcome = refl

  changed-same : (call : Call) → Access.places_changed t you call ≡ Access.places_changed s p call
  changed-same call =
      ap (λ (ps : List Place). if Access.removes_names call then ps else if Access.creates_names call then filter (λ place. is_none (node_of place)) ps else [])
      (places-same call)

  reported-same : (call : Call) → Access.nodes_reported t you call ≡ Access.nodes_reported s p call
  reported-same call =
      ap₂ (λ (ns ms : List ℕ). if reports_of_place call then ns else if reports_of_descriptor call then ms else []) (nodes-same call) (descriptor-same call)

  -- the walks that a table decides about
  judged-same : (w : Walk) → judged t you w ≡ judged s p w
  judged-same w = by (place_found (end_of t you w)) ∙ ap (judged_at s w.needed) (found-same w)
    where
      by : (o : Option Place) → judged_at t w.needed o ≡ judged_at s w.needed o
      by None = refl
      by (Some place) = refl

  pub walks-same : (call : Call) (n m : ℕ) → take n (walks_of call) ≡ take m (walks_of call) → judged_walks t you call n ≡ judged_walks s p call m
  walks-same (Unveil path permissions) n m is = refl
  walks-same call n m is = λ i. filter_map (λ (w : Walk). judged-same w i) (is i)

  opens-same : (f : ℕ) (test : Mode → Bool) (o : Option OpenFile) → Sealed.opens t you f test o ≡ Sealed.opens s p f test o
  opens-same f test None = refl
  opens-same f test (Some file) = refl

  table-same : (f : ℕ) (o : Option Table) → Sealed.leaks_of_table t you f o ≡ Sealed.leaks_of_table s p f o
  table-same f None = refl
  table-same f (Some table) = refl

  on-same : (f : ℕ) (test : Mode → Bool) → Sealed.descriptors_on t you f test ≡ Sealed.descriptors_on s p f test
  on-same f test =
      λ i. map (λ (d : ℕ × Descriptor). d.0) (filter (λ (d : ℕ × Descriptor). opens-same f test (at_number s.files d.1.file) i) (numbered p.descriptors))

  leaks-same : (f : ℕ) → Sealed.leaks t you f ≡ Sealed.leaks s p f
  unfolding Sealed.leaks
  leaks-same f =
      λ i. Sealed.least_first Reads (on-same f reads i)
      ++ (if Sealed.is_pledged_without (Rpath ∷ ExecPromise ∷ Cpath ∷ []) p then [] else table-same f p.table i)

  pub process-same : shown_process t you ≡ shown_process s p
  process-same = λ i. record { tree = s.tree; program = p.program; line = p.line; leaks = λ f. leaks-same f i }

-- the node of a new descriptor
opened-here : (x y : State) (pid : ℕ) (outcome : Outcome) → LooksAlike pid x y → Access.node_opened y pid outcome ≡ Access.node_opened x pid outcome
opened-here x y pid (Value d) is =
    by-fields (λ z. AreAlike (process_at x pid) (process_at z pid) → Access.node_opened z pid (Value d) ≡ Access.node_opened x pid (Value d)) x y is.tree is.files
    (by y.processes y.last_process (process_at x pid) (process_at y pid)) is.process
  where
    opened_in : State → Option Process → List ℕ
    opened_in z o = option_to_list (option_map (λ (file : ℕ × OpenFile). file.1.node) (option_and_then (λ p. open_file z p (pos d)) o))

    by : (ps : List (ℕ × ProcessRecord)) (last : ℕ) (a b : Option Process) → AreAlike a b → opened_in (record x { processes = ps; last_process = last }) b ≡ opened_in x a
    by ps last None b is = ap (opened_in (record x { processes = ps; last_process = last })) is
    by ps last (Some p) b is =
        ap (opened_in (record x { processes = ps; last_process = last })) is.2
        ∙ ap (λ o. option_to_list (option_map (λ (file : ℕ × OpenFile). file.1.node) o)) (opened-same x ps last p is.0 is.1 (pos d))
opened-here x y pid outcome is = refl

-- ---- the accesses of a step

module _ (s : State) (ps : List (ℕ × ProcessRecord)) (last : ℕ) (pid : ℕ) (p : Process) (rs : List ℤ) (bs : Bytes)
    (now now' : Stepped) (outcome : now'.outcome ≡ now.outcome) (after : LooksAlike pid now.after now'.after) where
  abbrev there : State
  there = record s { processes = ps; last_process = last }

  abbrev other : Process
  other = with_values rs bs p

  by-open-same : (flags : Option OpenFlags) → Access.accesses_by_open now'.after pid now'.outcome flags ≡ Access.accesses_by_open now.after pid now.outcome flags
  by-open-same None = refl
  by-open-same (Some flags) =
      ap (map (λ n. Access.opens n flags.mode)) (ap (Access.node_opened now'.after pid) outcome ∙ opened-here now.after now'.after pid now.outcome after)

  module _ (call : Call) where
    success-same : Access.accesses_by_success there pid other call now' ≡ Access.accesses_by_success s pid p call now
    success-same =
        λ i. map (λ name. Access.changes_name name.0 name.1) (filter_map name_of (changed-same s ps last p rs bs call i))
        ++ map Access.reports (reported-same s ps last p rs bs call i)
        ++ by-open-same (flags_of call) i

    pub accesses-same : Access.accesses there pid other call now' ≡ Access.accesses s pid p call now
    unfolding Access.accesses
    accesses-same =
        (λ i. map Access.reads (Access.nodes_read there other call (outcome i))
        ++ map Access.executes (Access.nodes_executed there other call (outcome i))
        ++ map Access.writes (Access.nodes_written there other call (outcome i))
        ++ (if has_succeeded (outcome i) then Access.accesses_by_success there pid other call now' else []))
        ∙ (λ i. map Access.reads (read-same s ps last p rs bs call now.outcome i)
        ++ map Access.executes (executed-same s ps last p rs bs call now.outcome i)
        ++ map Access.writes (written-same s ps last p rs bs call now.outcome i)
        ++ (if has_succeeded now.outcome then success-same i else []))

    pub access-lines-same : (files : List Bytes) (first : Tree) → lines_of_accesses files first there pid other call now' ≡ lines_of_accesses files first s pid p call now
    access-lines-same files first = λ i. lines_of_kept files first s.tree (after.tree i) pid (accesses-same i)
