-- A step keeps a sealed file sealed, and a frozen file frozen.
use Rattle.std.proofs.Common.{◌≡◌, ◌≢◌, ◌⊎◌, inl, inr, ⊎_elim, ℕ, Bool, true, false, not, if◌then◌else◌, List, [], ◌∷◌, length, Option, None, Some, is_some, refl, ap, sym, subst, ◌∙◌}
use Rattle.std.specs.List.{list_all}
use Rattle.std.specs.FinMap.Entries.{find, is_sorted}
use Rattle.std.specs.Ordering.{nat_cmp}
use Rattle.std.proofs.lemmas.Bool.{and_parts, and_from, cases_eq}
use Rattle.pv_model.specs.declared.call.Call.{Call}
use Rattle.pv_model.specs.declared.call.Call.TheVariants as TheCall
use Rattle.pv_model.specs.declared.open_flags.Mode.{Mode}
use Rattle.pv_model.specs.declared.perms.Perms.{Perms}
use Rattle.pv_model.specs.declared.promise.Promise.{Promise}
use Rattle.pv_model.specs.declared.promise.Promise.TheVariants.{Rpath, Wpath, Cpath, Exec as ExecPromise}
use Rattle.pv_model.specs.Machine.{at_next_line, update, Bytes, is_empty, with_content_of, with_content, end_process, Reply, among, collect, live_processes, needs, keep_if, Promises, contains, missing_promise, is_file, leaks, Program, Process, ProcessRecord, live, ended_record, State, reads, writes, process_at, step, file_bytes, Node, directory_node, file_node, link_node, Tree, node_at, entries_of, is_directory_at, find_entry, without_entry, with_new_node, names_of, Table}
use Rattle.pv_model.specs.Closed.{Lacks, HasOn, GivesName, GivesAbove, opens_or_moves, IsHeldOverExec, IsClosedByPledge, IsClosedByTable, IsClosed, IsFixedByPledge, IsFixedByTable, IsFrozenTo}
use Rattle.pv_model.specs.Sealed.{is_frozen_to, is_sealed, is_frozen}
use Rattle.pv_laws_trees.specs.Preserved.{numbers_wanted}
use Rattle.pv_laws_states.specs.States.{EncodesPrograms, is_call, IsTree, IsValid}
use Rattle.pv_laws_trees.proofs.TreeChanges.{node_at-same, node_at-other}
use Rattle.pv_laws_trees.proofs.NumberedMaps.{at_number-below, at_number-keep}
use Rattle.pv_laws_trees.proofs.Trees.{ordered, sound}
use Rattle.pv_laws_states.proofs.ValidByTree.{named-place}
use Rattle.pv_laws_states.proofs.ValidBySteps.{step-keeps_valid}
use Rattle.pv_laws_states.proofs.ValidEnds.{tree-end}
use Rattle.pv_laws_states.proofs.ReferenceMembers.{live-found, found-live, find_number_after}
use Rattle.pv_laws_states.proofs.CallOutcomes.{at_call}
use Rattle.pv_laws_states.proofs.Processes.{number-itself, process_at-same, tree-update}
use Rattle.pv_laws_states.proofs.ValidReplies.{valid-at_call}
use Rattle.pv_laws_states.proofs.CollectedStates.{held_after, tree-collect}
use Rattle.pv_laws_access.specs.Growth.{HasNoMoreRights, HasExecuted, GainsNone}
use Rattle.pv_laws_access.proofs.ChangedTrees.{file-other, new-within, file-new}
use Rattle.pv_laws_access.proofs.ClosedProcesses.{live-passes, lacking, frozen-not_changed}
use Rattle.pv_laws_access.proofs.CallEffects
use Rattle.pv_laws_access.proofs.JustifiedChanges.{fine-name, many, between-directory}
use Rattle.pv_laws_access.proofs.JustifiedGains.{Opens}
use Rattle.pv_laws_trees.proofs.ListMembers.{In, entry-in, in-entry}
use Rattle.pv_laws_access.proofs.TouchingCalls.{touched}
use Rattle.pv_laws_access.proofs.Verdicts.{leaks-closed, frozen-tested}
use Rattle.pv_laws_access.specs.Sealing.{IsSealedFile, IsFrozenFile, StaysFrozen}
use Rattle.pv_laws_access.proofs.Confinement.{KeepsInPlace, closed-keeps, no-reader, no-writer, name-stays, above-stays, name-was}
use Rattle.pv_laws_access.proofs.ProcessOrigins.{IsCalled, IsExecve, IsHeir, heirs}
use Rattle.pv_laws_access.proofs.GoverningEntries.{gave-name, gave-above}

-- ---- a file stays a file

file-content : (t : Tree) (g : ℕ) (bytes : Bytes) (f : ℕ) → is_file (node_at t f) ≡ true → is_file (node_at (with_content t g bytes) f) ≡ true
file-content t g bytes f file = by (node_at t g) refl
  where
    by : (o : Option Node) → node_at t g ≡ o → is_file (node_at (with_content_of t g o bytes) f) ≡ true
    by None at = file
    by (Some (directory_node es)) at = file
    by (Some (link_node text)) at = file
    by (Some (file_node executable old)) at =
        let below = at_number-below t.nodes g (file_node executable old) at in
        ⊎_elim
        (λ same. ap (λ n. is_file (node_at (Rattle.pv_model.specs.Tree.with_node t g (file_node executable bytes)) n)) same ∙ ap is_file (node_at-same t g (file_node executable bytes) below))
        (λ other. ap is_file (node_at-other t g (file_node executable bytes) f below other) ∙ file) (cases_eq f g)

module _ (s : State) (pid : ℕ) (me : Process) (call : Call) (whole : IsValid s) (at : process_at s pid ≡ Some me) (is_good : is_call call ≡ true)
    (f : ℕ) (file : is_file (node_at s.tree f) ≡ true) where
  abbrev IsStill : Tree → Type 0
  IsStill t = is_file (node_at t f) ≡ true

  still-new : (p : ℕ × Bytes) (node : Node) (u : Tree) → u ≡ with_new_node s.tree p.0 p.1 node → IsTree u → is_directory_at s.tree p.0 ≡ true → entries_of (Some node) ≡ [] → IsStill u
  still-new p node u is tree dir bare =
      let below = new-within s.tree p node (ap (λ (t : Tree). length t.nodes) (sym is) ∙ many s pid me call whole at is_good u tree (ap (λ (t : Tree). t.inodes) is)) in
      ap (λ (t : Tree). is_file (node_at t f)) is ∙ ap is_file (file-new s.tree p node dir bare below f file) ∙ file

  still-by : (after : State) (r : Reply) → CallEffects.HasEffect s pid me call after r → IsTree after.tree → IsStill after.tree
  still-by _ _ (CallEffects.stays r waiting) tree = file
  still-by _ _ (CallEffects.restrains q r no_more same parent table goes) tree = file
  still-by _ _ (CallEffects.begins path program is) tree = file
  still-by _ _ (CallEffects.closes k) tree = file
  still-by _ _ (CallEffects.copies e x k is) tree = file
  still-by _ _ (CallEffects.forks is) tree = file
  still-by _ _ (CallEffects.reaps k r ended goes) tree = file
  still-by _ _ (CallEffects.moves k old new r was node mode named goes) tree = file
  still-by _ _ (CallEffects.cuts g bytes own) tree = file-content s.tree g bytes f file
  still-by _ _ (CallEffects.writes_bytes g bytes k old new m own was node mode named) tree = file-content s.tree g bytes f file
  still-by _ _ (CallEffects.makes place p node change free bare) tree =
      still-new p node (with_new_node s.tree p.0 p.1 node) refl tree (fine-name s pid me call whole at is_good place p change).directory bare
  still-by _ _ (CallEffects.links place p old n change allowed is fine) tree = ap is_file (file-other s.tree p.0 _ f (fine-name s pid me call whole at is_good place p change).directory file) ∙ file
  still-by _ _ (CallEffects.unlinks place p change) tree = ap is_file (file-other s.tree p.0 _ f (fine-name s pid me call whole at is_good place p change).directory file) ∙ file
  still-by _ _ (CallEffects.renames place p next q n from into is) tree =
      let dir = (fine-name s pid me call whole at is_good place p from).directory in
      let first : is_file (node_at (without_entry s.tree p.0 p.1) f) ≡ true = ap is_file (file-other s.tree p.0 _ f dir file) ∙ file in
      let into_dir = between-directory s pid me call whole at is_good p dir q.0 (fine-name s pid me call whole at is_good next q into).directory in
      ap is_file (file-other (without_entry s.tree p.0 p.1) q.0 _ f into_dir first) ∙ first
  still-by _ _ (CallEffects.opens flags place n m flagged allowed is fine written) tree = by flags.truncate
    where
      by : (b : Bool) → IsStill (if b then with_content s.tree n [] else s.tree)
      by true = file-content s.tree n [] f file
      by false = file
  still-by _ _ (CallEffects.creates flags place p m flagged allowed create named free fine) tree =
      still-new p (file_node false []) (with_new_node s.tree p.0 p.1 (file_node false [])) refl tree (named-place s.tree place p (fine whole at is_good) named).directory refl

-- a node that remains after collection is unchanged
pub collect-there : (s : State) (f : ℕ) → is_some (node_at (collect s).tree f) ≡ true → node_at (collect s).tree f ≡ node_at s.tree f
collect-there s f there =
    let preserved = ap (λ (t : Tree). node_at t f) (tree-collect s) ∙ at_number-keep (among (numbers_wanted s.tree (held_after s))) s.tree.nodes f in
    preserved ∙ by (among (numbers_wanted s.tree (held_after s)) f) (node_at s.tree f) (ap is_some (sym preserved) ∙ there)
  where
    by : (b : Bool) (o : Option Node) → is_some (keep_if b o) ≡ true → keep_if b o ≡ o
    by true o is = refl
    by false o is = cc

-- a file that exists after a step is a file
pub file-stays : (program_of : Bytes → Option Program) (s : State) (pid : ℕ) (f : ℕ) → IsValid s → is_file (node_at s.tree f) ≡ true → is_some (node_at (step program_of s pid).after.tree f) ≡ true
    → is_file (node_at (step program_of s pid).after.tree f) ≡ true
file-stays program_of s pid f whole file there = by (is_file (node_at (step program_of s pid).after.tree f)) refl
  where
    by : (b : Bool) → is_file (node_at (step program_of s pid).after.tree f) ≡ b → is_file (node_at (step program_of s pid).after.tree f) ≡ true
    by true is = is
    by false isnt =
        let T : State → Type 0 = λ y. (is_some (node_at y.tree f) ≡ true) × (is_file (node_at y.tree f) ≡ false) in
        let t = touched program_of s pid whole T
        (λ both. let no = both.1 in cc)
        (λ p q at same both. let no = both.1 in cc)
        (λ y me status tree ascending others both.
        let same : node_at (collect (end_process y pid me status)).tree f ≡ node_at s.tree f =
        collect-there (end_process y pid me status) f both.0 ∙ ap (λ (u : Tree). node_at u f) (tree-end y pid me status ∙ tree) in
        let no : is_file (node_at s.tree f) ≡ false = ap is_file (sym same) ∙ both.1 in cc)
        (there, isnt) in
        let same : node_at (collect (update t.after pid t.reported)).tree f ≡ node_at t.after.tree f =
        collect-there (update t.after pid t.reported) f t.touch.0 ∙ ap (λ (u : Tree). node_at u f) (tree-update t.after pid t.reported) in
        let still =
        still-by (at_call s pid t.me) pid (at_next_line t.me) t.call (valid-at_call s pid t.me whole t.at) (process_at-same s pid (at_next_line t.me)) t.is f file t.after t.reply t.does t.tree in
        let no : is_file (node_at t.after.tree f) ≡ false = ap is_file (sym same) ∙ t.touch.1 in
        let bad : true ≡ false = sym still ∙ no in cc bad

-- ---- restraints stay

pub lacks-no_more : (p q : Process) (a : Promise) → GainsNone p.promises q.promises → Lacks p a → Lacks q a
lacks-no_more p q a gains l = by p.promises q.promises refl refl gains l.1
  where
    none : (held : Promises) (preserved : Promises) → contains held a ≡ false → ((b : Promise) → contains preserved b ≡ true → contains held b ≡ true) → (c : Bool) → contains preserved a ≡ c → c ≡ false
    none held preserved lacks more true has = let yes : contains held a ≡ true = more a has in cc
    none held preserved lacks more false has = refl

    by : (o u : Option Promises) → p.promises ≡ o → q.promises ≡ u → GainsNone o u → o ≡ Some l.0 → Lacks q a
    by None u at now gains is = cc is
    by (Some held) None at now gains is = absurd gains
    by (Some held) (Some preserved) at now gains is =
        let same : held ≡ l.0 = cc is in
        (preserved, now, none held preserved (ap (λ h. contains h a) same ∙ l.2) gains (contains preserved a) refl)

some-no_more : (o u : Option Promises) → GainsNone o u → is_some o ≡ true → is_some u ≡ true
some-no_more None u gains is = cc is
some-no_more (Some held) None gains is = absurd gains
some-no_more (Some held) (Some preserved) gains is = refl

pub held-no_more : (p q : Process) → HasNoMoreRights p q → IsHeldOverExec p → IsHeldOverExec q
held-no_more p q no_more held =
    ⊎_elim (λ l. inl (lacks-no_more p q ExecPromise no_more.promises l)) (λ set. inr (some-no_more p.execpromises q.execpromises no_more.execpromises set)) held

-- a process that lacks exec makes no execve
pub no-exec : (s : State) (pid : ℕ) (p q : Process) → IsCalled s pid p (IsExecve p q) → Lacks p ExecPromise → ⊥
unfolding needs
no-exec s pid p q e l =
    let met : missing_promise p.promises (needs (TheCall.Execve e.comes.0)) ≡ None = ap (λ c. missing_promise p.promises (needs c)) (sym e.comes.1) ∙ e.held in
    lacking l.0 ExecPromise [] l.2 (ap (λ o. missing_promise o ((ExecPromise ∷ []) ∷ [])) (sym l.1) ∙ met)

-- the restraints after an execve that keeps them
pub record IsCarried (p q : Process) : Type 0 where
  pub table : q.table ≡ p.table
  pub locked : q.locked ≡ p.locked
  pub held : IsHeldOverExec q

pub carried : (s : State) (pid : ℕ) (p q : Process) → IsCalled s pid p (IsExecve p q) → IsHeldOverExec p → IsCarried p q
carried s pid p q e held = ⊎_elim (λ l. absurd (no-exec s pid p q e l)) (λ set. by p.execpromises refl set) held
  where
    has : HasExecuted p q
    has = e.comes.2

    by : (o : Option Promises) → p.execpromises ≡ o → is_some o ≡ true → IsCarried p q
    by None is set = cc set
    by (Some preserved) is set = let both = has.stays preserved is in record { table = both.0; locked = both.1; held = inr (ap is_some (has.execpromises ∙ is)) }

-- ---- closed processes stay closed

-- every live process is closed to the file
abbrev AllClosed : State → ℕ → Type 0
AllClosed s f = (pid : ℕ) (p : Process) → process_at s pid ≡ Some p → IsClosed s p f

-- a descriptor on the file, as an open file on its node
opened : (s : State) (f : ℕ) (test : Mode → Bool) (q : Process) (d : ℕ) → (on : HasOn s q f test d) → Opens s.files q.descriptors f on.1.mode
opened s f test q d on = record { number = d; descriptor = on.0; file = on.1; there = on.2; opened = on.3; node = on.4; mode_is = refl }

pub had : (s : State) (f : ℕ) (test : Mode → Bool) (p : Process) (mode : Mode) → test mode ≡ true → Opens s.files p.descriptors f mode → (d : ℕ) × HasOn s p f test d
had s f test p mode passes o = (o.number, (o.descriptor, o.file, o.there, o.opened, o.node, ap test o.mode_is ∙ passes))

-- a process derived from one that neither has nor gets a descriptor for writing the file has none
pub unwritten-heir : (s after : State) (pid : ℕ) (whole : IsValid s) (f : ℕ) → is_file (node_at s.tree f) ≡ true → (k : ℕ) (q : Process) → (h : IsHeir s after pid k q) → IsFrozenTo s h.p f
    → (d : ℕ) → ¬ HasOn after q f writes d
unwritten-heir s after pid whole f file k q h before d on =
    let e = h.gains f on.1.mode (opened after f writes q d on) (λ o. let was = had s f writes h.p on.1.mode on.5 o in before.descriptors was.0 was.1) in
    no-writer s whole h.p f file before e.call on.1.mode e.held on.5 e.comes

module _ (program_of : Bytes → Option Program) (encodes : EncodesPrograms program_of) (s : State) (pid : ℕ) (whole : IsValid s) (f : ℕ) (file : is_file (node_at s.tree f) ≡ true)
    (keeps : (p : Process) → process_at s pid ≡ Some p → KeepsInPlace s p f) where
  abbrev after : State
  after = (step program_of s pid).after

  whole' : IsValid after
  whole' = step-keeps_valid program_of encodes s pid whole

  pub gave_name : (p q : Process) (table : Table) (test : Perms → Bool) (k : ℕ)
      → GivesName after q f table test k → GivesName s p f table test k
  gave_name p q table test k =
      gave-name s.tree after.tree whole.tree.well_formed whole'.tree.well_formed f (name-stays program_of s pid whole f file keeps) (above-stays program_of s pid whole f file keeps)
      (name-was program_of s pid whole f file keeps) s after p q table test k refl refl

  pub gave_above : (p q : Process) (table : Table) (k : ℕ) → GivesAbove after q f table k → GivesAbove s p f table k
  gave_above p q table k =
      gave-above s.tree after.tree whole.tree.well_formed whole'.tree.well_formed f (name-stays program_of s pid whole f file keeps) (above-stays program_of s pid whole f file keeps)
      (name-was program_of s pid whole f file keeps) s after p q table k refl refl

  unveiled-shut : (p q : Process) (table : Table) → IsClosedByTable s p f table → q.table ≡ p.table → q.locked ≡ true → IsHeldOverExec q → IsClosedByTable after q f table
  unveiled-shut p q table u same locked held = record {
    in_force = same ∙ u.in_force;
    locked = locked;
    names = λ k gives. u.names k (gave_name p q table opens_or_moves k gives);
    directories = λ k gives. u.directories k (gave_above p q table k gives);
    over_exec = held;
  }

  unveiled-from : (p q : Process) (table : Table) → IsFixedByTable s p f table → q.table ≡ p.table → q.locked ≡ true → IsHeldOverExec q → IsFixedByTable after q f table
  unveiled-from p q table u same locked held = record { in_force = same ∙ u.in_force; locked = locked; names = λ k gives. u.names k (gave_name p q table (λ permissions. permissions.w) k gives); over_exec = held }

  -- a table that is kept is unchanged
  pub unveiled-heir : (p q : Process) (table : Table) → (HasNoMoreRights p q ⊎ IsCalled s pid p (IsExecve p q)) → IsFixedByTable s p f table → IsFixedByTable after q f table
  unveiled-heir p q table how u =
      ⊎_elim (λ no_more. unveiled-from p q table u (no_more.closed u.locked) (no_more.lock u.locked) (held-no_more p q no_more u.over_exec))
      (λ e. let c = carried s pid p q e u.over_exec in unveiled-from p q table u c.table (c.locked ∙ u.locked) c.held) how

  -- a process derived from a closed process is closed
  pub closed-heir : (k : ℕ) (q : Process) → (h : IsHeir s after pid k q) → IsClosed s h.p f → IsClosed after q f
  closed-heir k q h before = record {
    descriptors = λ d on.
        let e = h.gains f on.1.mode (opened after f reads q d on) (λ o. let was = had s f reads h.p on.1.mode on.5 o in before.descriptors was.0 was.1) in
        no-reader s whole h.p f file before e.call on.1.mode e.held on.5 e.comes;
    restraints = by h.p before h.restraints;
  }
    where
      by : (p : Process) → IsClosed s p f → (HasNoMoreRights p q ⊎ IsCalled s pid p (IsExecve p q)) → IsClosedByPledge after q f ⊎ ((table : Table) × IsClosedByTable after q f table)
      by p before how =
          ⊎_elim
          (λ pledged. ⊎_elim
          (λ no_more. inl (record {
            no_rpath = lacks-no_more p q Rpath no_more.promises pledged.no_rpath;
            no_exec = lacks-no_more p q ExecPromise no_more.promises pledged.no_exec;
            no_cpath = lacks-no_more p q Cpath no_more.promises pledged.no_cpath;
          }))
          (λ e. absurd (no-exec s pid p q e pledged.no_exec)) how)
          (λ unveiled. inr (
            unveiled.0,
            ⊎_elim (λ no_more. unveiled-shut p q unveiled.0 unveiled.1 (no_more.closed unveiled.1.locked) (no_more.lock unveiled.1.locked) (held-no_more p q no_more unveiled.1.over_exec))
                (λ e. let c = carried s pid p q e unveiled.1.over_exec in unveiled-shut p q unveiled.0 unveiled.1 c.table (c.locked ∙ unveiled.1.locked) c.held) how,
          )) before.restraints

  frozen-following : ((j : ℕ) (p : Process) → process_at s j ≡ Some p → IsFrozenTo s p f) → (k : ℕ) (q : Process) → process_at after k ≡ Some q → IsFrozenTo after q f
  frozen-following frozen k q there =
      let h = heirs program_of s pid whole k q there in
      let before = frozen h.from h.p h.at in
      record {
        descriptors = unwritten-heir s after pid whole f file k q h before;
        restraints = by h.p before h.restraints;
      }
    where
      by : (p : Process) → IsFrozenTo s p f → (HasNoMoreRights p q ⊎ IsCalled s pid p (IsExecve p q)) → IsFixedByPledge after q f ⊎ ((table : Table) × IsFixedByTable after q f table)
      by p before how =
          ⊎_elim
          (λ pledged. ⊎_elim
          (λ no_more. inl (record { no_wpath = lacks-no_more p q Wpath no_more.promises pledged.no_wpath; no_exec = lacks-no_more p q ExecPromise no_more.promises pledged.no_exec }))
          (λ e. absurd (no-exec s pid p q e pledged.no_exec)) how)
          (λ unveiled. inr (unveiled.0, unveiled-heir p q unveiled.0 how unveiled.1)) before.restraints

module _ (program_of : Bytes → Option Program) (encodes : EncodesPrograms program_of) (s : State) (pid : ℕ) (whole : IsValid s) (f : ℕ) (file : is_file (node_at s.tree f) ≡ true)
    (shut : AllClosed s f) where
  pub all-keep : (p : Process) → process_at s pid ≡ Some p → KeepsInPlace s p f
  all-keep p at = closed-keeps s p f (shut pid p at)

  closed-following : (k : ℕ) (q : Process) → process_at (step program_of s pid).after k ≡ Some q → IsClosed (step program_of s pid).after q f
  closed-following k q there =
      let h = heirs program_of s pid whole k q there in closed-heir program_of encodes s pid whole f file all-keep k q h (shut h.from h.p h.at)

-- ---- the meaning of sealed

none-left : {X : Type 0} (xs : List X) → is_empty xs ≡ true → xs ≡ []
none-left [] is = refl
none-left (x ∷ xs) is = cc is

all-live : (test : Process → Bool) (rs : List (ℕ × ProcessRecord)) → is_sorted nat_cmp rs ≡ true → ((k : ℕ) (p : Process) → find nat_cmp k rs ≡ Some (live p) → test p ≡ true)
    → list_all (λ (e : ℕ × Process). test e.1) (live_processes rs) ≡ true
all-live test [] sorted each = refl
all-live test ((k, live p) ∷ rs) sorted each =
    and_from (test p) _ (each k p (ap (λ o. Rattle.std.proofs.Common.cond (Rattle.std.specs.Ordering.is_eq o) (Some (live p)) (find nat_cmp k rs)) (number-itself k)))
    (all-live test rs (and_parts _ (is_sorted nat_cmp rs) sorted).1 (λ j q found. each j q (find_number_after j (live q) (k, live p) rs sorted found)))
all-live test ((k, ended_record parent status) ∷ rs) sorted each =
    all-live test rs (and_parts _ (is_sorted nat_cmp rs) sorted).1 (λ j q found. each j q (find_number_after j (live q) (k, ended_record parent status) rs sorted found))

module _ (s : State) (whole : IsValid s) (f : ℕ) where
  abbrev HasName : Type 0
  HasName = (d : ℕ) × (name : Bytes) × (find_entry s.tree d name ≡ Some f)

  sealed-named : is_sealed s f ≡ true → HasName
  sealed-named is = by (names_of s.tree f) refl (and_parts (not (is_empty (names_of s.tree f))) _ is).0
    where
      by : (ns : List (ℕ × Bytes)) → names_of s.tree f ≡ ns → not (is_empty ns) ≡ true → HasName
      by [] same is = cc is
      by (n ∷ ns) same is =
          (n.0, n.1, in-entry s.tree (ordered s.tree (sound s.tree whole.tree.well_formed).each_node) f n (subst (In (ℕ × Bytes) n) (sym same) (inl refl)))

  named-some : HasName → not (is_empty (names_of s.tree f)) ≡ true
  named-some has = by (names_of s.tree f) (entry-in s.tree f has.0 has.1 has.2)
    where
      by : (ns : List (ℕ × Bytes)) → In (ℕ × Bytes) (has.0, has.1) ns → not (is_empty ns) ≡ true
      by [] is = absurd is
      by (n ∷ ns) is = refl

  sealed-all : is_sealed s f ≡ true → AllClosed s f
  sealed-all is k p at =
      (leaks-closed s p f whole.tree.well_formed).0
      (none-left (leaks s p f) (live-passes (λ (q : Process). is_empty (leaks s q f)) k p s.processes (live-found s k p at) (and_parts (not (is_empty (names_of s.tree f))) _ is).1))

  all-sealed : HasName → AllClosed s f → is_sealed s f ≡ true
  all-sealed named shut =
      and_from (not (is_empty (names_of s.tree f))) _ (named-some named)
      (all-live (λ (q : Process). is_empty (leaks s q f)) s.processes whole.processes.ascending
      (λ k p found. ap is_empty ((leaks-closed s p f whole.tree.well_formed).1 (shut k p (found-live s k p found)))))

  frozen-all : is_frozen s f ≡ true → (k : ℕ) (p : Process) → process_at s k ≡ Some p → IsFrozenTo s p f
  frozen-all is k p at =
      (frozen-tested s p f whole.tree.well_formed).0 (live-passes (λ (q : Process). is_frozen_to s q f) k p s.processes (live-found s k p at) (and_parts (is_sealed s f) _ is).1)

  all-frozen : is_sealed s f ≡ true → ((k : ℕ) (p : Process) → process_at s k ≡ Some p → IsFrozenTo s p f) → is_frozen s f ≡ true
  all-frozen sealed frozen =
      and_from (is_sealed s f) _ sealed
      (all-live (λ (q : Process). is_frozen_to s q f) s.processes whole.processes.ascending (λ k p found. (frozen-tested s p f whole.tree.well_formed).1 (frozen k p (found-live s k p found))))

-- ---- the laws

pub sealed-stays : (program_of : Bytes → Option Program) → EncodesPrograms program_of → (s : State) (pid : ℕ) (f : ℕ) → IsValid s → IsSealedFile s f → IsSealedFile (step program_of s pid).after f
sealed-stays program_of encodes s pid f whole is =
    let shut = sealed-all s whole f is.sealed in
    let whole' = step-keeps_valid program_of encodes s pid whole in
    let named = sealed-named s whole f is.sealed in
    let left = name-stays program_of s pid whole f is.file (all-keep program_of encodes s pid whole f is.file shut) named.0 named.1 named.2 in
    record {
      file = file-stays program_of s pid f whole is.file (whole'.tree.well_formed.entries_are_nodes named.0 named.1 f left);
      sealed = all-sealed (step program_of s pid).after whole' f (named.0, named.1, left) (closed-following program_of encodes s pid whole f is.file shut);
    }

same-bytes : (a b : Bytes) → (a ≡ b) ⊎ (a ≢ b)
same-bytes = Rattle.pv_laws_trees.proofs.TreeChanges.cases_name

pub frozen-stays : (program_of : Bytes → Option Program) → EncodesPrograms program_of → (s : State) (pid : ℕ) (f : ℕ) → IsValid s → IsFrozenFile s f → StaysFrozen f s (step program_of s pid).after
frozen-stays program_of encodes s pid f whole is =
    let sealed = (and_parts (is_sealed s f) _ is.frozen).0 in
    let left = sealed-stays program_of encodes s pid f whole (record { file = is.file; sealed = sealed }) in
    record {
      still = record {
        file = left.file;
        frozen = all-frozen (step program_of s pid).after (step-keeps_valid program_of encodes s pid whole) f left.sealed
            (frozen-following program_of encodes s pid whole f is.file (all-keep program_of encodes s pid whole f is.file (sealed-all s whole f sealed)) (frozen-all s whole f is.frozen));
      };
      bytes = ⊎_elim (λ same. same) (λ changes. absurd (frozen-not_changed program_of s pid f whole is.frozen (is.file, left.file, changes)))
          (same-bytes (file_bytes (step program_of s pid).after f) (file_bytes s f));
    }

pub closed-held : (s : State) (p : Process) (f : ℕ) → IsClosed s p f → IsHeldOverExec p
closed-held s p f closed = ⊎_elim (λ pledged. inl pledged.no_exec) (λ unveiled. unveiled.1.over_exec) closed.restraints
