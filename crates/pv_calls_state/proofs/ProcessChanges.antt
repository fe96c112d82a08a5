-- A process that changes, with its open files and references.
use Rattle.std.proofs.Common.{◌≡◌, ℕ, ◌+◌, ◌*◌, ◌<◌, ◌≤◌, true, List, length, Option, None, Some, refl, ap, sym, subst, ◌∙◌, arith}
use Rattle.std.specs.Prelude.{slice_index, option_map, IsSome}
use Rattle.std.specs.FinMap.Entries.{find, is_sorted}
use Rattle.std.specs.Ordering.{nat_cmp}
use Rattle.std.proofs.lemmas.Bool.{and_parts, leb-true}
use Rattle.std.proofs.lemmas.List.{length-map}
use Rattle.pv_files.specs.Counted.{Counted, IsCounted}
use Rattle.pv_laws_states.specs.States.{IsValid, IsPlaced, is_target}
use Rattle.pv_laws_states.proofs.ReferenceMembers.{all_of, live-found, found-live}
use Rattle.pv_model.specs.Machine.{used_files, held_by_table, held_by_process, collect, Numbered, at_number, OpenFile, Process, live, ended_record, State, process_at, with_process as state_with_process, Tree, Table, update as state_updated, update_live as state_update_live}
use Rattle.pv_procs.specs.declared.record.ProcessRecord.{ProcessRecord as Owned}
use Rattle.pv_procs.specs.Parts.{record_of}
use Rattle.pv_procs.specs.ProcessTable.{ProcessTable, process_in, table_with_process, updated_table, updated_live, state_with}
use Rattle.pv_procs.specs.OfTree.Holding.{HeldTree, holds_at, collected}
use Rattle.pv_procs.specs.OfTree.Present.{IsPresent}
use Rattle.pv_calls_state.specs.Changes.{with_directory}
use Rattle.pv_calls_state.specs.Counts.{state_of, times, used_in, held_in, open_nodes, IsCountedUp}
use Rattle.pv_calls_state.specs.Releasing.{files_on, HoldsOpened}
use Rattle.pv_calls_state.proofs.ReferenceCounting.{one-self, times-put, times-within, length-all_of, length-listed}
use Rattle.pv_calls_state.proofs.RemovedUsers.{of_file, of_node}
use Rattle.pv_calls_state.proofs.CollectionByCounts.{one_if, times-cons, collect-parts}

pub some-process : (o : Option Process) → IsSome o → (p : Process) × (o ≡ Some p)
some-process None is = absurd (no is)
  where
    no : IsSome {T = Process} None → ⊥
    no h = cc h
some-process (Some p) is = (p, refl)

-- the parts are valid before a call, and have this process
pub record IsBefore (t : HeldTree) (c : Counted) (ps : ProcessTable) (pid : ℕ) (me : Process) : Type 0 where
  pub whole : IsValid (state_of t c ps)
  pub up : IsCountedUp t c ps
  pub present : IsPresent t
  pub counted : IsCounted c
  pub at : process_in ps pid ≡ Some me

pub before : (s : State) (t : HeldTree) (c : Counted) (ps : ProcessTable) (pid : ℕ) (me : Process) → state_of t c ps ≡ s → IsValid s → IsCountedUp t c ps → IsPresent t → IsCounted c
    → process_at s pid ≡ Some me → IsBefore t c ps pid me
before s t c ps pid me view whole up present counted at = record {
  whole = subst IsValid (sym view) whole;
  up = up;
  present = present;
  counted = counted;
  at = ap (λ x. process_at x pid) view ∙ at;
}

-- the same for some process
pub started : (s : State) (t : HeldTree) (c : Counted) (ps : ProcessTable) (pid : ℕ) → state_of t c ps ≡ s → IsValid s → IsCountedUp t c ps → IsPresent t → IsCounted c
    → IsSome (process_at s pid) → (me : Process) × IsBefore t c ps pid me
started s t c ps pid view whole up present counted there =
    let found = some-process (process_at s pid) there in (found.0, before s t c ps pid found.0 view whole up present counted found.1)

module _ (t : HeldTree) (c : Counted) (ps : ProcessTable) (pid : ℕ) (me : Process) (is : IsBefore t c ps pid me) where
  pub ordered : is_sorted nat_cmp ps.processes ≡ true
  ordered = is.whole.processes.ascending

  pub found : find nat_cmp pid ps.processes ≡ Some (live me)
  found = live-found (state_of t c ps) pid me is.at

  pub placed : IsPlaced t.tree c.files me
  placed = is.whole.processes.placed pid me is.at

  pub updated : (f : Process → Process) → updated_table ps pid f ≡ table_with_process ps pid (f me)
  updated f = ap (updated_live ps pid f) is.at

  -- the elements of one process are among those of all processes
  part-of : (g : Process → List ℕ) (n : ℕ) → times n (g me) ≤ times n (all_of g ps.processes)
  part-of g n = omega (arith, times-put g n ps.processes pid (live me) (ended_record 0 0) ordered found)

  pub uses-own : (k : ℕ) → times k (files_on me.descriptors) ≤ slice_index c.users k
  uses-own k = omega (arith, is.up.users k, part-of used_files k)

  pub holds-own : (n : ℕ) → times n (held_by_process me) + times n (open_nodes c.files) ≤ holds_at t n
  holds-own n = omega (arith, is.up.holds n, part-of held_by_process n)

  pub holds-opened : HoldsOpened t c
  holds-opened = record { each = λ n. omega (arith, is.up.holds n) }

  -- the record of the process
  pub owned : (r : Owned) → option_map record_of (process_in ps pid) ≡ Some r → record_of me ≡ r
  owned r same = let eq : Some (record_of me) ≡ Some r = ap (option_map record_of) (sym is.at) ∙ same in cc eq

  pub own-directory : (n : ℕ) → n ≡ me.directory → 0 < holds_at t n
  own-directory n same =
      omega (arith, holds-own n, times-cons n me.directory (held_by_table me.table), ap (λ m. one_if m n) (sym same), one-self n)

  -- the state with the process changed
  pub state-updated : (s : State) (f : Process → Process) → state_of t c ps ≡ s → state_with t.tree c.files (table_with_process ps pid (f me)) ≡ state_updated s pid f
  state-updated s f view = sym (ap (state_update_live (state_of t c ps) pid f) is.at) ∙ ap (λ x. state_updated x pid f) view

  pub state-put : (s : State) (you : Process) → state_of t c ps ≡ s → state_with t.tree c.files (table_with_process ps pid you) ≡ state_with_process s pid you
  state-put s you view = ap (λ x. state_with_process x pid you) view

  -- ---- bounds

  pub few-users : (k : ℕ) → slice_index c.users k ≤ 512
  few-users k =
      let few : length (used_in ps.processes) ≤ length ps.processes * 16 =
      length-all_of used_files 16 ps.processes ordered (λ q p at.
      let most = length-listed of_file p.descriptors in
      omega (arith, most, (is.whole.processes.placed q p (found-live (state_of t c ps) q p at)).descriptors)) in
      omega (arith, is.up.users k, times-within k (used_in ps.processes), is.whole.processes.count)

  table-few : (u : Tree) (table : Option Table) → Rattle.pv_laws_states.specs.States.is_table u table ≡ true → length (held_by_table table) ≤ 64
  table-few u None is = omega arith
  table-few u (Some table) is =
      let few = leb-true (length table) 64 (and_parts _ _ is).0 in omega (arith, length-map table (λ e. Rattle.pv_model.specs.Unveil.target_directory e.0), few)

  pub few-held : (q : ℕ) (p : Process) → find nat_cmp q ps.processes ≡ Some (live p) → length (held_by_process p) ≤ 65
  few-held q p at = let few = table-few t.tree p.table (is.whole.processes.placed q p (found-live (state_of t c ps) q p at)).table in omega arith

  pub few-holds : (n : ℕ) → holds_at t n ≤ 2208
  few-holds n =
      let few : length (held_in ps.processes) ≤ length ps.processes * 65 = length-all_of held_by_process 65 ps.processes ordered few-held in
      let opened : length (open_nodes c.files) ≤ length c.files = length-listed of_node c.files in
      omega (arith, is.up.holds n, times-within n (held_in ps.processes), times-within n (open_nodes c.files), is.whole.processes.count, is.counted.slots)

  -- ---- a process that changes

  module _ (u : HeldTree) (d : Counted) (qs : ProcessTable) (you : Process) (put : qs ≡ table_with_process ps pid you)
      (users : (k : ℕ) → slice_index d.users k + times k (files_on me.descriptors) ≡ slice_index c.users k + times k (files_on you.descriptors))
      (holds : (n : ℕ) → (holds_at u n + times n (held_by_process me)) + times n (open_nodes c.files) ≡ (holds_at t n + times n (held_by_process you)) + times n (open_nodes d.files)) where
    changed-up : IsCountedUp u d (table_with_process ps pid you)
    changed-up = record {
      users = λ k. omega (arith, is.up.users k, users k, times-put used_files k ps.processes pid (live me) (live you) ordered found);
      holds = λ n. omega (arith, is.up.holds n, holds n, times-put held_by_process n ps.processes pid (live me) (live you) ordered found);
    }

    pub counted-changed : IsCountedUp u d qs
    counted-changed = subst (λ x. IsCountedUp u d x) (sym put) changed-up

    pub collected-changed : (tree : Tree) (files : Numbered OpenFile) → IsCounted d → length files ≡ 128 → u.tree ≡ collected tree u.holds
        → ((k : ℕ) → 0 < slice_index d.users k → at_number d.files k ≡ at_number files k)
        → state_of u d qs ≡ collect (state_with tree files (table_with_process ps pid you))
    collected-changed tree files counted long nodes same =
        ap (λ x. state_of u d x) put
        ∙ sym (collect-parts (state_with tree files (table_with_process ps pid you)) u d (table_with_process ps pid you) changed-up counted long refl refl (sym nodes) same)

  -- ---- another working directory

  module _ (u v : HeldTree) (left directory : ℕ) (own : left ≡ me.directory) (more : (n : ℕ) → holds_at t n + one_if directory n ≡ holds_at v n) where
    pub left-held : 0 < holds_at v left
    left-held = omega (arith, own-directory left own, more left)

    pub moved-holds : ((n : ℕ) → holds_at u n + one_if left n ≡ holds_at v n) → (n : ℕ)
        → (holds_at u n + times n (held_by_process me)) + times n (open_nodes c.files)
        ≡ (holds_at t n + times n (held_by_process (with_directory directory me))) + times n (open_nodes c.files)
    moved-holds gone n =
        omega (arith, gone n, more n, times-cons n me.directory (held_by_table me.table), times-cons n directory (held_by_table me.table), ap (λ m. one_if m n) own)
