-- Each touch of a step has its access among those of the step.
use Rattle.std.proofs.Common.{◌≡◌, ◌≢◌, ◌⊎◌, inl, inr, ⊎_elim, ◌∙◌, sym, ap, subst, refl, ℕ, ℤ, Bool, true, false, if◌then◌else◌, ◌==◌, eqb-true, List, [], ◌∷◌, ◌++◌, map, filter, filter_map, Option, None, Some, is_none, option_map, option_and_then}
use Rattle.std.specs.Prelude.{option_to_list}
use Rattle.pv_model.specs.declared.call.Call.{Call}
use Rattle.pv_model.specs.declared.call.Call.TheVariants as TheCall
use Rattle.pv_model.specs.declared.open_flags.Mode.{Mode}
use Rattle.pv_model.specs.declared.open_flags.OpenFlags.{OpenFlags}
use Rattle.pv_model.specs.declared.outcome.Outcome.{Outcome}
use Rattle.pv_model.specs.declared.outcome.Outcome.TheVariants.{Value}
use Rattle.pv_model.specs.declared.place.Place.{Place}
use Rattle.pv_model.specs.declared.promise.Promise.TheVariants.{Cpath}
use Rattle.pv_model.specs.Machine.{at_next_line, Access, executes, changes_name, accesses, node_of_descriptor, Attempt, Bytes, end_process, Effect, node_of, name_of, bytes_of, open_file, needs, needs_cpath, calls_for, next, Need, missing_promise, is_file, OpenFile, Program, Process, State, writes as for_writing, process_at, step, change_file, gain_descriptor, file_bytes, flags_of, places, Touches, node_at, find_entry, new_number, Tree}
use Rattle.pv_model.specs.Answers.Access.{reads, writes, reports, opens, accesses_by_open, accesses_by_success, creates_names, if_truncated, nodes_executed, nodes_of_places, nodes_read, nodes_reported, nodes_written, places_changed, removes_names}
use Rattle.pv_model.specs.Touch.{change_entry, HasDescriptor, HasOpen}
use Rattle.pv_laws_states.specs.States.{EncodesPrograms, IsTree, IsValid}
use Rattle.pv_laws_states.proofs.AttemptValues.{Leads}
use Rattle.pv_laws_states.proofs.CallOutcomes.{at_call}
use Rattle.pv_laws_states.proofs.Processes.{process_at-same}
use Rattle.pv_laws_states.proofs.ValidEnds.{tree-end}
use Rattle.pv_laws_access.specs.Justice.{changes_bytes}
use Rattle.pv_laws_access.proofs.ChangedTrees.{entry-collect, file-collect}
use Rattle.pv_laws_access.proofs.ProcessesAfterEnds.{ended-not_live, process_at-collect}
use Rattle.pv_laws_access.proofs.JustifiedChanges.{IsCut, entries-edited, files-written}
use Rattle.pv_laws_access.proofs.JustifiedGains.{Opens, gains-opened, has-opens, opens-has}
use Rattle.pv_laws_answers.proofs.Lists.{Among, among-filter, among-filter_map, among-left, among-map, among-right}
use Rattle.pv_laws_classes.proofs.ReducedProcesses.{themselves}
use Rattle.pv_laws_schedules.proofs.StatesAfterSuccess.{done-names, done-succeeds, entry-done, file-done, opened-node}
use Rattle.pv_laws_schedules.proofs.NamedPlaces.{IsOpening, WritesCount, ReturnsZero, write-counts, cut-returns}
use Rattle.pv_laws_schedules.proofs.SuccessfulCalls.{outcome_of, IsDone, succeeds}

-- ---- calls

-- only these calls need cpath
needs-none : (call : Call) → removes_names call ≡ false → creates_names call ≡ false → Among (Cpath ∷ []) (needs call) → ⊥
unfolding needs
needs-none (TheCall.Mkdir path) removes creates has = cc creates
needs-none (TheCall.Symlink text path) removes creates has = cc creates
needs-none (TheCall.Link path new) removes creates has = cc creates
needs-none (TheCall.Open path flags) removes creates has = cc creates
needs-none (TheCall.OpenAt start path flags) removes creates has = cc creates
needs-none (TheCall.Unlink path) removes creates has = cc removes
needs-none (TheCall.Rmdir path) removes creates has = cc removes
needs-none (TheCall.Rename path new) removes creates has = cc removes
needs-none (TheCall.Exit status) removes creates has = has
needs-none (TheCall.Pledge promises execpromises) removes creates has = has
needs-none call removes creates (inl is) = cc is
needs-none call removes creates (inr none) = none

-- the nodes that an open writes
written-open : (s : State) (p : Process) (call : Call) (flags : OpenFlags) (n : ℕ) → flags_of call ≡ Some flags → nodes_written s p call (Value n) ≡ if_truncated (flags_of call) (nodes_of_places s p call)
written-open s p (TheCall.Open path f) flags n flagged = refl
written-open s p (TheCall.OpenAt start path f) flags n flagged = refl
written-open s p call flags n flagged = cc flagged

-- the node of the descriptor of a call
own-node : (s : State) (p : Process) (call : Call) (test : Mode → Bool) (f : ℕ) → HasDescriptor s p call test f → Among f (node_of_descriptor s p call)
own-node s p call test f (d, k, file, descriptor, opened, node, passes) =
    subst (λ (o : Option ℤ). Among f (option_to_list (option_map (λ (file : ℕ × OpenFile). file.1.node) (option_and_then (open_file s p) o)))) (sym descriptor)
    (subst (λ (o : Option (ℕ × OpenFile)). Among f (option_to_list (option_map (λ (file : ℕ × OpenFile). file.1.node) o))) (sym opened) (inl (sym node)))

-- ---- the accesses of a step

module _ (program_of : Bytes → Option Program) (encodes : EncodesPrograms program_of) (s : State) (pid : ℕ) (whole : IsValid s) where
  -- an access of the step
  pub record HasAccess (a : Access) : Type 0 where
    pub process : Process
    pub call : Call
    pub live : process_at s pid ≡ Some process
    pub calls : next process ≡ calls_for call
    pub has : Among a (accesses s pid process call (step program_of s pid))

  module _ (me : Process) (call : Call) where
    abbrev names' : List Access
    names' = map (λ name. changes_name name.0 name.1) (filter_map name_of (places_changed s me call))

    abbrev reports' : List Access
    reports' = map reports (nodes_reported s me call)

    abbrev opens' : List Access
    opens' = accesses_by_open (step program_of s pid).after pid (step program_of s pid).outcome (flags_of call)

    writes-among : (f : ℕ) → Among f (nodes_written s me call (step program_of s pid).outcome) → Among (writes f) (accesses s pid me call (step program_of s pid))
    unfolding accesses
    writes-among f has =
        among-left (writes f)
        (map reads (nodes_read s me call (step program_of s pid).outcome) ++ map executes (nodes_executed s me call (step program_of s pid).outcome) ++ map writes (nodes_written s me call (step program_of s pid).outcome)) _
        (among-right (writes f) (map reads (nodes_read s me call (step program_of s pid).outcome) ++ map executes (nodes_executed s me call (step program_of s pid).outcome)) (map writes (nodes_written s me call (step program_of s pid).outcome))
        (among-map writes f (nodes_written s me call (step program_of s pid).outcome) has))

    success-among : (a : Access) → Rattle.pv_model.specs.Touch.has_succeeded (step program_of s pid).outcome ≡ true → Among a (names' ++ reports' ++ opens') → Among a (accesses s pid me call (step program_of s pid))
    unfolding accesses
    success-among a succeeded has =
        among-right a _ _ (subst (λ (b : Bool). Among a (if b then accesses_by_success s pid me call (step program_of s pid) else [])) (sym succeeded) has)

  module _ (me : Process) (call : Call) (at : process_at s pid ≡ Some me) (next_is : next me ≡ calls_for call) (held : missing_promise me.promises (needs call) ≡ None)
      (is : IsDone program_of s pid me call at next_is held) where
    name-among : (place : Place) (d : ℕ) (name : Bytes) → Among place (places_changed s me call) → name_of place ≡ Some (d, name) → Among (changes_name d name) (accesses s pid me call (step program_of s pid))
    name-among place d name changed named =
        success-among me call (changes_name d name) (done-succeeds program_of s pid whole me call at next_is held is)
        (among-left (changes_name d name) (names' me call ++ reports' me call) (opens' me call)
        (among-left (changes_name d name) (names' me call) (reports' me call)
        (among-map (λ (name : ℕ × Bytes). changes_name name.0 name.1) (d, name) (filter_map name_of (places_changed s me call))
        (among-filter_map name_of place (d, name) (places_changed s me call) changed named))))

    open-among : (f : OpenFlags) → flags_of call ≡ Some f → (o : IsOpening (at_call s pid me) pid (at_next_line me) call f is.after is.reply)
        → Among (opens o.node f.mode) (accesses s pid me call (step program_of s pid))
    open-among f flagged o =
        success-among me call (opens o.node f.mode) (done-succeeds program_of s pid whole me call at next_is held is)
        (among-right (opens o.node f.mode) (names' me call ++ reports' me call) (opens' me call)
        (subst (λ (g : Option OpenFlags). Among (opens o.node f.mode) (accesses_by_open (step program_of s pid).after pid (step program_of s pid).outcome g)) (sym flagged)
        (subst (λ (ns : List ℕ). Among (opens o.node f.mode) (map (λ n. opens n f.mode) ns)) (sym (opened-node program_of s pid whole me call at next_is held is f o)) (inl refl))))

  -- ---- files

  abbrev BytesDiffer : ℕ → State → Type 0
  BytesDiffer f y = (is_file (node_at y.tree f) ≡ true) × (file_bytes y f ≢ file_bytes s f)

  module _ (f : ℕ) where
    written-by : (me : Process) (call : Call) (at : process_at s pid ≡ Some me) (next_is : next me ≡ calls_for call) (held : missing_promise me.promises (needs call) ≡ None)
        → IsDone program_of s pid me call at next_is held → BytesDiffer f (step program_of s pid).after
        → changes_bytes call ≡ true → HasDescriptor s me call for_writing f → Among f (nodes_written s me call (step program_of s pid).outcome)
    written-by me (TheCall.Write d n) at next_is held is differ changes own =
        subst (λ (o : Outcome). Among f (nodes_written s me (TheCall.Write d n) o)) (sym (is.outcome ∙ ap outcome_of counts.1)) (by (counts.0 == 0) refl)
      where
        counts : WritesCount (at_call s pid me) pid (at_next_line me) (is.after, is.reply)
        counts =
            subst (λ (a : Attempt Effect). Leads (WritesCount (at_call s pid me) pid (at_next_line me)) a) is.same (write-counts (at_call s pid me) pid (at_next_line me) program_of d n)

        by : (b : Bool) → (counts.0 == 0) ≡ b → Among f (if b then [] else node_of_descriptor s me (TheCall.Write d n))
        by true none =
            absurd (differ.1 (ap bytes_of (file-done program_of s pid whole me (TheCall.Write d n) at next_is held is f differ.0 ∙ ap (λ (y : State). node_at y.tree f) (counts.2 (eqb-true counts.0 0 none)))))
        by false some = own-node s me (TheCall.Write d n) for_writing f own
    written-by me (TheCall.Ftruncate d n) at next_is held is differ changes own =
        let zero : ReturnsZero (at_call s pid me) pid (at_next_line me) (is.after, is.reply) =
        subst (λ (a : Attempt Effect). Leads (ReturnsZero (at_call s pid me) pid (at_next_line me)) a) is.same (cut-returns (at_call s pid me) pid (at_next_line me) program_of d n) in
        subst (λ (o : Outcome). Among f (nodes_written s me (TheCall.Ftruncate d n) o)) (sym (is.outcome ∙ ap outcome_of zero)) (own-node s me (TheCall.Ftruncate d n) for_writing f own)
    written-by me (TheCall.Open path flags) at next_is held is differ changes own = cc own.3
    written-by me (TheCall.OpenAt start path flags) at next_is held is differ changes own = cc own.3
    written-by me call at next_is held is differ changes own = cc changes

    cut-by : (me : Process) (call : Call) (at : process_at s pid ≡ Some me) (next_is : next me ≡ calls_for call) (held : missing_promise me.promises (needs call) ≡ None)
        → IsDone program_of s pid me call at next_is held → IsCut s me call f → Among f (nodes_written s me call (step program_of s pid).outcome)
    cut-by me call at next_is held is cut =
        let o = (done-names program_of s pid whole me call at next_is held is).opens cut.flags cut.flagged in
        let own = among-filter_map node_of cut.place f (places s me call) (themselves (places s me call) cut.place cut.allowed.0) cut.node in
        subst (λ (r : Outcome). Among f (nodes_written s me call r)) (sym (is.outcome ∙ ap outcome_of o.reply))
        (subst (Among f) (sym (written-open s me call cut.flags _ cut.flagged))
        (subst (λ (g : Option OpenFlags). Among f (if_truncated g (nodes_of_places s me call))) (sym cut.flagged)
        (subst (λ (b : Bool). Among f (if b then nodes_of_places s me call else [])) (sym cut.truncates) own)))

  pub write-accessed : (f : ℕ) → Touches program_of s pid (change_file f) → HasAccess (writes f)
  write-accessed f changes =
      let e = files-written program_of s pid f whole changes in
      let is = succeeds program_of s pid e.me e.call e.at e.next_is e.held whole (BytesDiffer f)
      (λ differs. differs.1 refl)
      (λ p q at same differs. differs.1 refl)
      (λ y me status tree ascending others differs.
      differs.1 (ap bytes_of (file-collect (end_process y pid me status) f differs.0 ∙ ap (λ (u : Tree). node_at u f) (tree-end y pid me status ∙ tree))))
      (changes.1, changes.2) in
      record {
        process = e.me;
        call = e.call;
        live = e.at;
        calls = e.next_is;
        has = writes-among e.me e.call f
            (⊎_elim (λ own. written-by f e.me e.call e.at e.next_is e.held is (changes.1, changes.2) own.0 own.1) (λ cut. cut-by f e.me e.call e.at e.next_is e.held is cut) e.written);
      }

  -- ---- entries

  pub name-accessed : (d : ℕ) (name : Bytes) → Touches program_of s pid (change_entry d name) → HasAccess (changes_name d name)
  name-accessed d name changes =
      let e = entries-edited program_of s pid d name whole changes in
      let is = succeeds program_of s pid e.me e.call e.at e.next_is e.held whole (λ (y : State). find_entry y.tree d name ≢ find_entry s.tree d name)
      (λ differs. differs refl)
      (λ p q at same differs. differs refl)
      (λ y me status tree ascending others differs.
      differs (entry-collect (end_process y pid me status) (subst IsTree (sym (tree-end y pid me status ∙ tree)) whole.tree) d name ∙ ap (λ (u : Tree). find_entry u d name) (tree-end y pid me status ∙ tree)))
      changes in
      record {
        process = e.me;
        call = e.call;
        live = e.at;
        calls = e.next_is;
        has = name-among e.me e.call e.at e.next_is e.held is e.edited.place d name
            (changed e.me e.call e.edited.asks.0 e.edited.asks.1 e.edited.place (themselves (places s e.me e.call) e.edited.place e.edited.allowed.0)
            (λ creates. (done-names program_of s pid whole e.me e.call e.at e.next_is e.held is).absent creates d name
            (λ same. changes (entry-done program_of s pid whole e.me e.call e.at e.next_is e.held is encodes d name ∙ same)) e.edited.place (themselves (places s e.me e.call) e.edited.place e.edited.allowed.0) e.edited.named))
            e.edited.named;
      }
    where
      changed : (me : Process) (call : Call) (others : List Need) → needs call ≡ others ++ needs_cpath → (place : Place) → Among place (places s me call) → (creates_names call ≡ true → node_of place ≡ None)
          → Among place (places_changed s me call)
      changed me call others asks place has absent = by (removes_names call) refl (creates_names call) refl
        where
          by : (b : Bool) → removes_names call ≡ b → (c : Bool) → creates_names call ≡ c
              → Among place (if b then places s me call else (if c then filter (λ (place : Place). is_none (node_of place)) (places s me call) else []))
          by true removes c creates = has
          by false removes true creates = among-filter (λ (place : Place). is_none (node_of place)) place (places s me call) has (ap is_none (absent creates))
          by false removes false creates = needs-none call removes creates (subst (Among (Cpath ∷ [])) (sym asks) (among-right (Cpath ∷ []) others needs_cpath (inl refl)))

  -- ---- descriptors

  same-node : (place other : Place) (n m : ℕ) → place ≡ other → (node_of place ≡ Some n) ⊎ ((node_of place ≡ None) × (n ≡ new_number s.tree))
      → (node_of other ≡ Some m) ⊎ ((node_of other ≡ None) × (m ≡ new_number s.tree)) → m ≡ n
  same-node place other n m same (inl first) (inl second) = let both : Some m ≡ Some n = sym second ∙ ap node_of (sym same) ∙ first in cc both
  same-node place other n m same (inl first) (inr second) = let no : Some n ≡ None = sym first ∙ ap node_of same ∙ second.0 in cc no
  same-node place other n m same (inr first) (inl second) = let no : Some m ≡ None = sym second ∙ ap node_of (sym same) ∙ first.0 in cc no
  same-node place other n m same (inr first) (inr second) = second.1 ∙ sym first.1

  pub open-accessed : (n : ℕ) (mode : Mode) → Touches program_of s pid (gain_descriptor n mode) → HasAccess (opens n mode)
  open-accessed n mode gains =
      let e = gains-opened program_of s pid n mode whole gains in
      let is = succeeds program_of s pid e.me e.call e.at e.next_is e.held whole (λ (y : State). HasOpen y pid n mode × (HasOpen s pid n mode → ⊥))
      (λ both. both.1 both.0)
      (λ p q at same both. both.1 (opens-has s pid n mode p at (subst (λ ds. Opens s.files ds n mode) same (has-opens (Rattle.pv_model.specs.State.with_process s pid q) pid n mode both.0 q (process_at-same s pid q)))))
      (λ y me status tree ascending others both.
      ended-not_live y pid me status ascending both.0.0 (sym (process_at-collect (end_process y pid me status) pid) ∙ both.0.4))
      gains in
      let o = (done-names program_of s pid whole e.me e.call e.at e.next_is e.held is).opens e.opened.flags e.opened.flagged in
      let same : o.node ≡ n = same-node e.opened.place o.place n o.node
      (only-place e.opened.place o.place (subst (λ (ps : List Place). Among e.opened.place ps) o.only (themselves (places s e.me e.call) e.opened.place e.opened.allowed.0))) e.opened.which o.which in
      record {
        process = e.me;
        call = e.call;
        live = e.at;
        calls = e.next_is;
        has = subst (λ (m : ℕ). Among (opens m mode) (accesses s pid e.me e.call (step program_of s pid))) same
            (subst (λ (mode : Mode). Among (opens o.node mode) (accesses s pid e.me e.call (step program_of s pid))) e.opened.moded (open-among e.me e.call e.at e.next_is e.held is e.opened.flags e.opened.flagged o));
      }
    where
      only-place : (place other : Place) → Among place (other ∷ []) → place ≡ other
      only-place place other (inl same) = same
      only-place place other (inr none) = absurd none
