-- The accesses of a step do not depend on the numbers of open files.
use Rattle.std.proofs.Common.{◌≡◌, ◌∙◌, ap, ap₂, ℕ, ℤ, pos, if◌then◌else◌, ◌==◌, List, [], ◌++◌, map, filter, filter_map, Option, None, Some, is_none, option_map, option_and_then, option_to_list, refl}
use Rattle.pv_model.specs.declared.call.Call.{Call}
use Rattle.pv_model.specs.declared.call.Call.TheVariants.{Execve, Read, Write, Ftruncate}
use Rattle.pv_model.specs.declared.call.Start.{Start}
use Rattle.pv_model.specs.declared.call.Start.TheVariants.{WorkingDirectory, Descriptor as AtDescriptor}
use Rattle.pv_model.specs.declared.errno.Errno.TheVariants.{ENOEXEC}
use Rattle.pv_model.specs.declared.open_flags.OpenFlags.{OpenFlags}
use Rattle.pv_model.specs.declared.outcome.Outcome.{Outcome}
use Rattle.pv_model.specs.declared.outcome.Outcome.TheVariants.{Value, Text, Failed}
use Rattle.pv_model.specs.declared.place.Place.{Place}
use Rattle.pv_model.specs.Answers.Access
use Rattle.pv_model.specs.Machine.{of_next, of_process, of_calls, Bytes, node_of, name_of, open_file, start_directory, Numbered, Next, inside, calls_for, next, OpenFile, Program, Process, State, process_at, Stepped, step, descriptor_of, flags_of, place_found, places, has_succeeded, Tree, is_absolute, resolve, Walk, walks_of}
use Rattle.pv_model.specs.Answers.Observed.{CallObserver}
use Rattle.pv_model.specs.Touch.{reports_of_place, reports_of_descriptor}
use Rattle.pv_model_questions.specs.Accesses.{lines_of_accesses, lines_of_kept}
use Rattle.pv_laws_states.specs.States.{EncodesPrograms, IsValid}
use Rattle.pv_laws_states.proofs.ValidBySteps.{step-keeps_valid}
use Rattle.pv_laws_classes.specs.Canonical.{AreEqualRenumbered}
use Rattle.pv_laws_classes.specs.Renumbering.{renumbered_process}
use Rattle.pv_laws_classes.proofs.RenumberedLists.{Uses}
use Rattle.pv_laws_classes.proofs.RenumberedDescriptors.{opened-same, directory-file}
use Rattle.pv_laws_classes.proofs.RenumberedStates.{IsPresent, renumbered, Fits, AreRelated, by-related, process-renumbered, process-uses, tree-related}
use Rattle.pv_laws_classes.proofs.RenumberedSteps.{renumbered_next, next-renumbered, related-of, renumbered-steps}

-- ---- the nodes and names of a call

module _ (f : ℕ → ℕ) (gs : Numbered OpenFile) (s : State) (pid : ℕ) (p : Process) (fits : Fits f gs s) (mine : Uses (IsPresent s.files) p.descriptors) where
  abbrev t : State
  t = renumbered f gs s

  abbrev you : Process
  you = renumbered_process f p

  pub start-same : (start : Start) (path : Bytes) → start_directory t you start path ≡ start_directory s p start path
  start-same WorkingDirectory path = refl
  start-same (AtDescriptor d) path = ap (λ n. if is_absolute path then p.directory else n) (directory-file f gs s pid p fits mine d)

  places-same : (call : Call) → places t you call ≡ places s p call
  places-same call = λ i. filter_map (λ (w : Walk). place_found (resolve s.tree w.follow (start-same w.start w.path i) w.path)) (walks_of call)

  abbrev node_in : Option (ℕ × OpenFile) → List ℕ
  node_in o = option_to_list (option_map (λ (file : ℕ × OpenFile). file.1.node) o)

  node-shifted : (o : Option (ℕ × OpenFile)) → node_in (option_map (λ (v : ℕ × OpenFile). (f v.0, v.1)) o) ≡ node_in o
  node-shifted None = refl
  node-shifted (Some v) = refl

  descriptor-same : (call : Call) → Access.node_of_descriptor t you call ≡ Access.node_of_descriptor s p call
  descriptor-same call = by (descriptor_of call)
    where
      by : (o : Option ℤ) → node_in (option_and_then (open_file t you) o) ≡ node_in (option_and_then (open_file s p) o)
      by None = refl
      by (Some d) = ap node_in (opened-same f gs s pid p fits mine d) ∙ node-shifted (open_file s p d)

  nodes-same : (call : Call) → Access.nodes_of_places t you call ≡ Access.nodes_of_places s p call
  nodes-same call = ap (filter_map node_of) (places-same call)

  read-same : (call : Call) (outcome : Outcome) → Access.nodes_read t you call outcome ≡ Access.nodes_read s p call outcome
  read-same (Read d n) (Text taken) = ap (λ ns. if taken.len == 0 then [] else ns) (descriptor-same (Read d n))
  read-same (Execve path) (Failed ENOEXEC cause) = nodes-same (Execve path)
  read-same call outcome = refl

  executed-same : (call : Call) (outcome : Outcome) → Access.nodes_executed t you call outcome ≡ Access.nodes_executed s p call outcome
  executed-same (Execve path) (Value n) = nodes-same (Execve path)
  executed-same call outcome = refl

  written-same : (call : Call) (outcome : Outcome) → Access.nodes_written t you call outcome ≡ Access.nodes_written s p call outcome
  written-same (Write d n) (Value count) = ap (λ ns. if count == 0 then [] else ns) (descriptor-same (Write d n))
  written-same (Ftruncate d n) (Value count) = descriptor-same (Ftruncate d n)
  written-same call (Value n) = ap (Access.if_truncated (flags_of call)) (nodes-same call)
  written-same call outcome = refl

  changed-same : (call : Call) → Access.places_changed t you call ≡ Access.places_changed s p call
  changed-same call =
      ap (λ (ps : List Place). if Access.removes_names call then ps else if Access.creates_names call then filter (λ place. is_none (node_of place)) ps else []) (places-same call)

  reported-same : (call : Call) → Access.nodes_reported t you call ≡ Access.nodes_reported s p call
  reported-same call =
      ap₂ (λ (ns ms : List ℕ). if reports_of_place call then ns else if reports_of_descriptor call then ms else []) (nodes-same call) (descriptor-same call)

-- the node of a new descriptor
opened-here : (x y : State) (pid : ℕ) (outcome : Outcome) → AreRelated x y → Access.node_opened y pid outcome ≡ Access.node_opened x pid outcome
opened-here x y pid (Value d) is = by-related (λ x y. Access.node_opened y pid (Value d) ≡ Access.node_opened x pid (Value d)) x y is of
  where
    of : (f : ℕ → ℕ) (gs : Numbered OpenFile) → Fits f gs x → Access.node_opened (renumbered f gs x) pid (Value d) ≡ Access.node_opened x pid (Value d)
    of f gs fits = ap (λ o. option_to_list (option_map (λ (file : ℕ × OpenFile). file.1.node) (option_and_then (λ p. open_file (renumbered f gs x) p (pos d)) o))) (process-renumbered f gs x pid) ∙ by (process_at x pid) refl
      where
        by : (o : Option Process) → process_at x pid ≡ o
            → option_to_list (option_map (λ (file : ℕ × OpenFile). file.1.node) (option_and_then (λ p. open_file (renumbered f gs x) p (pos d)) (option_map (renumbered_process f) o)))
            ≡ option_to_list (option_map (λ (file : ℕ × OpenFile). file.1.node) (option_and_then (λ p. open_file x p (pos d)) o))
        by None at = refl
        by (Some p) at =
            let mine = process-uses x pid p (IsPresent x.files) fits.opens at in
            ap (λ o. option_to_list (option_map (λ (file : ℕ × OpenFile). file.1.node) o)) (opened-same f gs x pid p fits mine (pos d)) ∙ node-shifted f gs x pid p fits mine (open_file x p (pos d))
opened-here x y pid outcome is = refl

-- ---- the accesses of a step

module _ (f : ℕ → ℕ) (gs : Numbered OpenFile) (s : State) (pid : ℕ) (p : Process) (fits : Fits f gs s) (mine : Uses (IsPresent s.files) p.descriptors)
    (now now' : Stepped) (outcome : now'.outcome ≡ now.outcome) (after : AreRelated now.after now'.after) where
  by-open-same : (flags : Option OpenFlags) → Access.accesses_by_open now'.after pid now.outcome flags ≡ Access.accesses_by_open now.after pid now.outcome flags
  by-open-same None = refl
  by-open-same (Some flags) = ap (map (λ n. Access.opens n flags.mode)) (opened-here now.after now'.after pid now.outcome after)

  module _ (call : Call) where
    success-same : Access.accesses_by_success (renumbered f gs s) pid (renumbered_process f p) call now' ≡ Access.accesses_by_success s pid p call now
    success-same =
        ap (λ o. map (λ name. Access.changes_name name.0 name.1) (filter_map name_of (Access.places_changed (renumbered f gs s) (renumbered_process f p) call)) ++ map Access.reports (Access.nodes_reported (renumbered f gs s) (renumbered_process f p) call) ++ Access.accesses_by_open now'.after pid o (flags_of call)) outcome
        ∙ ap (λ ps. map (λ name. Access.changes_name name.0 name.1) (filter_map name_of ps) ++ map Access.reports (Access.nodes_reported (renumbered f gs s) (renumbered_process f p) call) ++ Access.accesses_by_open now'.after pid now.outcome (flags_of call)) (changed-same f gs s pid p fits mine call)
        ∙ ap₂ (λ ns os. map (λ name. Access.changes_name name.0 name.1) (filter_map name_of (Access.places_changed s p call)) ++ map Access.reports ns ++ os) (reported-same f gs s pid p fits mine call) (by-open-same (flags_of call))

    pub accesses-same : Access.accesses (renumbered f gs s) pid (renumbered_process f p) call now' ≡ Access.accesses s pid p call now
    unfolding Access.accesses
    accesses-same =
        ap (λ o. map Access.reads (Access.nodes_read (renumbered f gs s) (renumbered_process f p) call o) ++ map Access.executes (Access.nodes_executed (renumbered f gs s) (renumbered_process f p) call o) ++ map Access.writes (Access.nodes_written (renumbered f gs s) (renumbered_process f p) call o) ++ (if has_succeeded o then Access.accesses_by_success (renumbered f gs s) pid (renumbered_process f p) call now' else [])) outcome
        ∙ ap₂ (λ rs es. map Access.reads rs ++ map Access.executes es ++ map Access.writes (Access.nodes_written (renumbered f gs s) (renumbered_process f p) call now.outcome) ++ (if has_succeeded now.outcome then Access.accesses_by_success (renumbered f gs s) pid (renumbered_process f p) call now' else []))
        (read-same f gs s pid p fits mine call now.outcome) (executed-same f gs s pid p fits mine call now.outcome)
        ∙ ap₂ (λ ws xs. map Access.reads (Access.nodes_read s p call now.outcome) ++ map Access.executes (Access.nodes_executed s p call now.outcome) ++ map Access.writes ws ++ (if has_succeeded now.outcome then xs else []))
        (written-same f gs s pid p fits mine call now.outcome) success-same

    access-lines-same : (files : List Bytes) (first : Tree) → lines_of_accesses files first (renumbered f gs s) pid (renumbered_process f p) call now' ≡ lines_of_accesses files first s pid p call now
    access-lines-same files first =
        ap₂ (λ tree (xs : List Access.Access). lines_of_kept files first s.tree tree pid xs) (tree-related now.after now'.after after) accesses-same

-- ---- observers of calls

-- an observer of calls has the same items in two states that are related by a renumbering
module _ {X : Type 0} (observe : CallObserver X) where
  abbrev pub IsSame : Type 0
  IsSame =
      (f : ℕ → ℕ) (gs : Numbered OpenFile) (s : State) (pid : ℕ) (p : Process) → Fits f gs s → Uses (IsPresent s.files) p.descriptors
      → (now now' : Stepped) → now'.outcome ≡ now.outcome → AreRelated now.after now'.after → (call : Call) → observe (renumbered f gs s) pid (renumbered_process f p) call now' ≡ observe s pid p call now

  pub observed-same : IsSame → (pid : ℕ) (now now' : Stepped) → now'.outcome ≡ now.outcome → AreRelated now.after now'.after → (s t : State) → AreRelated s t → of_calls observe t pid now' ≡ of_calls observe s pid now
  observed-same same pid now now' outcome after s t is = by-related (λ s t. of_calls observe t pid now' ≡ of_calls observe s pid now) s t is of
    where
      by-next : (f : ℕ → ℕ) (gs : Numbered OpenFile) → Fits f gs s → (p : Process) → process_at s pid ≡ Some p → (n : Next)
          → of_next observe (renumbered f gs s) pid now' (renumbered_process f p) (renumbered_next f n) ≡ of_next observe s pid now p n
      by-next f gs fits p at (inside q) = refl
      by-next f gs fits p at (calls_for call) = same f gs s pid p fits (process-uses s pid p (IsPresent s.files) fits.opens at) now now' outcome after call

      by : (f : ℕ → ℕ) (gs : Numbered OpenFile) → Fits f gs s → (o : Option Process) → process_at s pid ≡ o
          → of_process observe (renumbered f gs s) pid now' (option_map (renumbered_process f) o) ≡ of_process observe s pid now o
      by f gs fits None at = refl
      by f gs fits (Some p) at = ap (of_next observe (renumbered f gs s) pid now' (renumbered_process f p)) (next-renumbered f p) ∙ by-next f gs fits p at (next p)

      of : (f : ℕ → ℕ) (gs : Numbered OpenFile) → Fits f gs s → of_calls observe (renumbered f gs s) pid now' ≡ of_calls observe s pid now
      of f gs fits = ap (of_process observe (renumbered f gs s) pid now') (process-renumbered f gs s pid) ∙ by f gs fits (process_at s pid) refl

-- the lines of accesses are such an observer
pub lines-same : (files : List Bytes) (first : Tree) → IsSame (lines_of_accesses files first)
lines-same files first f gs s pid p fits mine now now' outcome after call = access-lines-same f gs s pid p fits mine now now' outcome after call files first

-- an observer of calls has the same items for the steps of a process from two states that are equal up to a renumbering
pub of-classes : {X : Type 0} (observe : CallObserver X) → IsSame observe → (program_of : Bytes → Option Program) → EncodesPrograms program_of
    → (s t : State) (pid : ℕ) → IsValid s → IsValid t → AreEqualRenumbered s t → of_calls observe t pid (step program_of t pid) ≡ of_calls observe s pid (step program_of s pid)
of-classes observe same program_of encodes s t pid whole_s whole_t (f, is) =
    let both = renumbered-steps program_of f s t pid whole_s whole_t is in
    observed-same observe same pid (step program_of s pid) (step program_of t pid) both.outcome
    (related-of both.renumbering (step program_of s pid).after (step program_of t pid).after (step-keeps_valid program_of encodes s pid whole_s) (step-keeps_valid program_of encodes t pid whole_t) both.after)
    s t (related-of f s t whole_s whole_t is)
