-- Processes that end, execute a program, or have children.
use Rattle.std.proofs.Common.{◌≡◌, ◌≢◌, ℕ, zero, suc, ◌+◌, ◌<◌, ◌≤◌, Bool, true, false, ◌||◌, nat_le, nat_lt, List, [], ◌∷◌, map, length, Option, None, Some, is_some, refl, ap, ap₂, sym, subst, ◌∙◌, arith}
use Rattle.std.specs.Prelude.{slice_index, option_map, IsSome, if◌then◌else◌}
use Rattle.std.specs.FinMap.Entries.{find, put}
use Rattle.std.specs.Ordering.{nat_cmp}
use Rattle.std.proofs.lemmas.Bool.{and_parts, leb-true, cases_Bool}
use Rattle.pv_files.specs.Counted.{Counted, IsCounted}
use Rattle.pv_laws_states.specs.States.{is_process_number}
use Rattle.pv_laws_states.proofs.ReferenceMembers.{all_of, find_number-list_all}
use Rattle.pv_laws_states.proofs.Processes.{find-put_same}
use Rattle.pv_model.specs.declared.errno.Errno.TheVariants.{EAGAIN}
use Rattle.pv_model.specs.declared.limits.TheConstants.{LAST_PROCESS, PROCESSES}
use Rattle.pv_model.specs.Machine.{Attempt, done, refused, refuse_if, ◌>>◌, end_process, adopter, fork, child, with_program, Effect, answers, returns, used_files, held_by_table, held_by_process, collect, Numbered, at_number, Descriptor, Program, Process, ProcessRecord, live, ended_record, State, live_process, with_process as state_with_process, node_at, Table}
use Rattle.pv_model.specs.Calls.Processes.{descriptor_after_exec}
use Rattle.pv_procs.specs.declared.record.ProcessRecord.{ProcessRecord as Owned}
use Rattle.pv_procs.specs.Parts.{record_of}
use Rattle.pv_procs.specs.ProcessTable.{ProcessTable, process_in, table_with_process, state_with}
use Rattle.pv_procs.specs.OfTree.Holding.{HeldTree, holds_at, collected}
use Rattle.pv_procs.specs.OfTree.Present.{IsPresent}
use Rattle.pv_calls_state.specs.Attempts.{collected_attempt}
use Rattle.pv_calls_state.specs.Counts.{state_of, times, used_in, held_in, open_nodes, IsCountedUp}
use Rattle.pv_calls_state.specs.Releasing.{files_on, if_marked, marked_of, Releases, Shares, Unreferences}
use Rattle.pv_calls_state.proofs.ReferenceCounting.{of_place, times-place, one-self, times-within, times-put, times-put_new, all_of-adopted}
use Rattle.pv_calls_state.proofs.RemovedUsers.{of_file, collected_in_turn}
use Rattle.pv_calls_state.proofs.CollectionByCounts.{one_if, times-cons, collect-parts}
use Rattle.pv_calls_state.proofs.ProcessChanges.{IsBefore, ordered, found, uses-own, holds-own, few-users, few-holds, few-held, own-directory, counted-changed, collected-changed}

-- collecting twice equals collecting once
pub then-nodes : (t v w : HeldTree) → IsPresent t → v.tree ≡ collected t.tree v.holds → w.tree ≡ collected v.tree w.holds → ((n : ℕ) → holds_at w n ≤ holds_at v n) → w.tree ≡ collected t.tree w.holds
then-nodes t v w present first second fewer = second ∙ ap (λ x. collected x w.holds) first ∙ collected_in_turn t.tree v.holds w.holds present.well_formed fewer

-- the descriptors are those that execve closes and the others
pub times-marked : (k : ℕ) (ds : Numbered Descriptor) → times k (files_on (map descriptor_after_exec ds)) + times k (files_on (marked_of ds)) ≡ times k (files_on ds)
times-marked k [] = refl
times-marked k (o ∷ ds) =
    omega (arith, times-place of_file k o ds, times-place of_file k (descriptor_after_exec o) (map descriptor_after_exec ds), times-place of_file k (if_marked o) (marked_of ds), times-marked k ds, split o)
  where
    split : (o : Option Descriptor) → times k (of_place of_file (descriptor_after_exec o)) + times k (of_place of_file (if_marked o)) ≡ times k (of_place of_file o)
    split None = refl
    split (Some d) =
        Rattle.std.proofs.Common.⊎_elim
        (λ closes. ap₂ (λ a b. times k (of_place of_file a) + times k (of_place of_file b)) (ap (λ b. if b then None else Some d) closes) (ap (λ b. if b then Some d else None) closes) ∙ Rattle.std.proofs.Common.zero-add _)
        (λ stays. ap₂ (λ a b. times k (of_place of_file a) + times k (of_place of_file b)) (ap (λ b. if b then None else Some d) stays) (ap (λ b. if b then Some d else None) stays) ∙ Rattle.std.proofs.Common.add-zero _)
        (cases_Bool d.close_on_exec)

table-split : (n : ℕ) (b : Bool) (table : Option Table)
    → times n (held_by_table (if b then table else None)) + times n (if b then [] else held_by_table table) ≡ times n (held_by_table table)
table-split n true table = Rattle.std.proofs.Common.add-zero _
table-split n false table = Rattle.std.proofs.Common.zero-add _

-- the counts of all processes after one has ended
ended-times : (g : Process → List ℕ) → ((p : Process) (parent : ℕ) → g (record p { parent = parent }) ≡ g p) → (n : ℕ) (s : State) (pid : ℕ) (me : Process) (status : ℕ)
    → times n (all_of g (end_process s pid me status).processes) ≡ times n (all_of g (put nat_cmp pid (ended_record me.parent status) s.processes))
unfolding end_process
ended-times g same n s pid me status =
    let ended = put nat_cmp pid (ended_record me.parent status) s.processes in
    ap (times n) (all_of-adopted g same pid (adopter (record s { processes = ended })) ended)

-- the state after a successful fork
record IsForked (s after : State) (pid : ℕ) (me : Process) (n : ℕ) : Type 0 where
  pub state : after ≡ record (state_with_process s (suc s.last_process) (child s pid me)) { last_process = suc s.last_process }
  pub number : n ≡ suc s.last_process

abbrev state_in : State → Attempt Effect → State
state_in other (done walks effect) = effect.0
state_in other (refused walks errno cause) = other

abbrev number_in : Attempt Effect → ℕ
number_in (done walks (s, returns m)) = m
number_in _ = 0

forked : (s after : State) (pid : ℕ) (me : Process) (n : ℕ) → fork s pid me ≡ answers after n → IsForked s after pid me n
forked s after pid me n is = by (nat_le PROCESSES (length s.processes) || nat_lt LAST_PROCESS (suc s.last_process)) is
  where
    by : (b : Bool) → (refuse_if EAGAIN b >> answers (record (state_with_process s (suc s.last_process) (child s pid me)) { last_process = suc s.last_process }) (suc s.last_process)) ≡ answers after n
        → IsForked s after pid me n
    by true invalid = cc invalid
    by false right = record { state = sym (ap (state_in after) right); number = sym (ap number_in right) }

module _ (t : HeldTree) (c : Counted) (ps : ProcessTable) (pid : ℕ) (me : Process) (is : IsBefore t c ps pid me) where
  -- ---- the references of one process

  module _ (r : Owned) (own : record_of me ≡ r) where
    pub end-used : (k : ℕ) → times k (files_on r.descriptors) ≤ slice_index c.users k
    end-used k = omega (arith, uses-own t c ps pid me is k, ap (λ (x : Owned). times k (files_on x.descriptors)) own)

    pub load-used : (k : ℕ) → times k (files_on (marked_of r.descriptors)) ≤ slice_index c.users k
    load-used k = omega (arith, uses-own t c ps pid me is k, times-marked k me.descriptors, ap (λ (x : Owned). times k (files_on (marked_of x.descriptors))) own)

    module _ (v : HeldTree) (e : Counted) (holds : (n : ℕ) → holds_at v n + times n (open_nodes c.files) ≡ holds_at t n + times n (open_nodes e.files)) where
      pub end-targets : (n : ℕ) → times n (held_by_table r.unveiled.table) ≤ holds_at v n
      end-targets n =
          omega (arith, holds n, holds-own t c ps pid me is n, times-cons n me.directory (held_by_table me.table), ap (λ (x : Owned). times n (held_by_table x.unveiled.table)) own)

      pub end-directory : (w : HeldTree) → Unreferences (held_by_table r.unveiled.table) v w → 0 < holds_at w r.directory
      end-directory w gone =
          let n = r.directory in
          omega (
            arith,
            holds n,
            gone.holds n,
            holds-own t c ps pid me is n,
            times-cons n me.directory (held_by_table me.table),
            ap (λ (x : Owned). times n (held_by_table x.unveiled.table)) own,
            ap (λ (x : Owned). one_if x.directory n) own,
            one-self n,
          )

      pub end-holds : (w u : HeldTree) → Unreferences (held_by_table r.unveiled.table) v w → ((n : ℕ) → holds_at u n + one_if r.directory n ≡ holds_at w n) → (n : ℕ)
          → (holds_at u n + times n (held_by_process me)) + times n (open_nodes c.files) ≡ holds_at t n + times n (open_nodes e.files)
      end-holds w u gone last n =
          omega (
            arith,
            holds n,
            gone.holds n,
            last n,
            times-cons n me.directory (held_by_table me.table),
            ap (λ (x : Owned). times n (held_by_table x.unveiled.table)) own,
            ap (λ (x : Owned). one_if x.directory n) own,
          )

  -- ---- the end of a process

  module _ (u : HeldTree) (d : Counted) (qs : ProcessTable) (status : ℕ) (end : state_with t.tree c.files qs ≡ end_process (state_of t c ps) pid me status)
      (users : (k : ℕ) → slice_index d.users k + times k (files_on me.descriptors) ≡ slice_index c.users k)
      (holds : (n : ℕ) → (holds_at u n + times n (held_by_process me)) + times n (open_nodes c.files) ≡ holds_at t n + times n (open_nodes d.files)) where
    pub ended-up : IsCountedUp u d qs
    ended-up = record {
      users = λ k. omega (
        arith,
        is.up.users k,
        users k,
        ap (λ x. times k (used_in x.processes)) end,
        ended-times used_files (λ p parent. refl) k (state_of t c ps) pid me status,
        times-put used_files k ps.processes pid (live me) (ended_record me.parent status) (ordered t c ps pid me is) (found t c ps pid me is),
      );
      holds = λ n. omega (
        arith,
        is.up.holds n,
        holds n,
        ap (λ x. times n (held_in x.processes)) end,
        ended-times held_by_process (λ p parent. refl) n (state_of t c ps) pid me status,
        times-put held_by_process n ps.processes pid (live me) (ended_record me.parent status) (ordered t c ps pid me is) (found t c ps pid me is),
      );
    }

    pub ended-state : (s : State) → state_of t c ps ≡ s → IsCounted d → u.tree ≡ collected t.tree u.holds → ((k : ℕ) → 0 < slice_index d.users k → at_number d.files k ≡ at_number c.files k)
        → state_of u d qs ≡ collect (end_process s pid me status)
    ended-state s view counted nodes files =
        sym (collect-parts (state_with t.tree c.files qs) u d qs ended-up counted is.counted.slots refl refl (sym nodes) files)
        ∙ ap collect (end ∙ ap (λ x. end_process x pid me status) view)

  -- ---- another program

  module _ (s : State) (program : Program) (r : Owned) (own : record_of me ≡ r) (v : HeldTree) (e : Counted) (gone : Releases (files_on (marked_of r.descriptors)) [] t c v e)
      (keeps : Bool) (preserved : keeps ≡ is_some me.execpromises) (u : HeldTree) (went : Unreferences (if keeps then [] else held_by_table r.unveiled.table) v u) where
    you : Process
    you = with_program s pid me program

    load-users : (k : ℕ) → slice_index e.users k + times k (files_on me.descriptors) ≡ slice_index c.users k + times k (files_on (with_program s pid me program).descriptors)
    load-users k = omega (arith, gone.users k, times-marked k me.descriptors, ap (λ (x : Owned). times k (files_on (marked_of x.descriptors))) own)

    load-holds : (n : ℕ) → (holds_at u n + times n (held_by_process me)) + times n (open_nodes c.files)
        ≡ (holds_at t n + times n (held_by_process (with_program s pid me program))) + times n (open_nodes e.files)
    load-holds n =
        omega (
          arith,
          gone.holds n,
          went.holds n,
          times-cons n me.directory (held_by_table me.table),
          times-cons n me.directory (held_by_table (if is_some me.execpromises then me.table else None)),
          table-split n (is_some me.execpromises) me.table,
          ap (λ (x : Owned). times n (if keeps then [] else held_by_table x.unveiled.table)) own,
          ap (λ b. times n (if b then [] else held_by_table me.table)) preserved,
        )

    pub load-up : (qs : ProcessTable) → qs ≡ table_with_process ps pid (with_program s pid me program) → IsCountedUp u e qs
    load-up qs put = counted-changed t c ps pid me is u e qs (with_program s pid me program) put load-users load-holds

    pub load-state : (qs : ProcessTable) → qs ≡ table_with_process ps pid (with_program s pid me program) → IsCounted e
        → state_of u e qs ≡ collect (state_with t.tree c.files (table_with_process ps pid (with_program s pid me program)))
    load-state qs put counted =
        collected-changed t c ps pid me is u e qs (with_program s pid me program) put load-users load-holds t.tree c.files counted is.counted.slots
        (then-nodes t v u is.present gone.nodes went.nodes (λ n. omega (arith, went.holds n))) gone.files

  -- ---- a child

  module _ (qs : ProcessTable) (n : ℕ) (answer : fork (state_of t c ps) pid me ≡ answers (state_with t.tree c.files qs) n) where
    of-fork : IsForked (state_of t c ps) (state_with t.tree c.files qs) pid me n
    of-fork = forked (state_of t c ps) (state_with t.tree c.files qs) pid me n answer

    pub born : process_in qs n ≡ Some (child (state_of t c ps) pid me)
    born =
        ap (λ x. live_process (find nat_cmp n x.processes)) of-fork.state
        ∙ ap (λ m. live_process (find nat_cmp m (put nat_cmp (suc ps.last_process) (live (child (state_of t c ps) pid me)) ps.processes))) of-fork.number
        ∙ ap live_process (find-put_same (suc ps.last_process) (live (child (state_of t c ps) pid me)) ps.processes)

    pub child-owned : (r : Owned) → option_map record_of (process_in qs n) ≡ Some r → record_of (child (state_of t c ps) pid me) ≡ r
    child-owned r same = let eq : Some (record_of (child (state_of t c ps) pid me)) ≡ Some r = ap (option_map record_of) (sym born) ∙ same in cc eq

    fresh : find nat_cmp (suc ps.last_process) ps.processes ≡ None
    fresh = by (find nat_cmp (suc ps.last_process) ps.processes) refl
      where
        by : (o : Option ProcessRecord) → find nat_cmp (suc ps.last_process) ps.processes ≡ o → find nat_cmp (suc ps.last_process) ps.processes ≡ None
        by None at = at
        by (Some r) at =
            let within = find_number-list_all (is_process_number ps.last_process) (suc ps.last_process) r ps.processes is.whole.processes.numbers at in
            let least : suc ps.last_process ≤ ps.last_process = leb-true (suc ps.last_process) ps.last_process (and_parts (nat_le 1 (suc ps.last_process)) (nat_le (suc ps.last_process) ps.last_process) within).1 in absurd (omega arith)

    module _ (r : Owned) (own : record_of (child (state_of t c ps) pid me) ≡ r) where
      same-directory : r.directory ≡ me.directory
      same-directory = ap (λ (x : Owned). x.directory) (sym own)

      pub child-there : IsSome (node_at t.tree r.directory)
      child-there = is.present.held_are_nodes r.directory (own-directory t c ps pid me is r.directory same-directory)

      pub child-few : holds_at t r.directory < 65535
      child-few = omega (arith, few-holds t c ps pid me is r.directory)

      pub child-targets : (v : HeldTree) → v.tree ≡ t.tree → (m : ℕ) → 0 < times m (held_by_table r.unveiled.table) → IsSome (node_at v.tree m)
      child-targets v tree m more =
          subst (λ x. IsSome (node_at x m)) (sym tree)
          (is.present.held_are_nodes m (omega (arith, holds-own t c ps pid me is m, times-cons m me.directory (held_by_table me.table), ap (λ (x : Owned). times m (held_by_table x.unveiled.table)) own)))

      pub child-room : (v : HeldTree) → ((m : ℕ) → holds_at t m + one_if r.directory m ≡ holds_at v m) → (m : ℕ) → holds_at v m + times m (held_by_table r.unveiled.table) ≤ 65535
      child-room v more m =
          omega (
            arith,
            few-holds t c ps pid me is m,
            more m,
            times-within m (held_by_process me),
            few-held t c ps pid me is pid me (found t c ps pid me is),
            times-cons m me.directory (held_by_table me.table),
            ap (λ (x : Owned). times m (held_by_table x.unveiled.table)) own,
            ap (λ j. one_if j m) same-directory,
          )

      pub child-opened : (k : ℕ) → 0 < times k (files_on r.descriptors) → IsSome (at_number c.files k)
      child-opened k more = (is.counted.used k).1 (omega (arith, uses-own t c ps pid me is k, ap (λ (x : Owned). times k (files_on x.descriptors)) own))

      pub child-users : (k : ℕ) → slice_index c.users k + times k (files_on r.descriptors) ≤ 65535
      child-users k = omega (arith, few-users t c ps pid me is k, uses-own t c ps pid me is k, ap (λ (x : Owned). times k (files_on x.descriptors)) own)

      module _ (v u : HeldTree) (d : Counted) (more : (m : ℕ) → holds_at t m + one_if r.directory m ≡ holds_at v m)
          (holds : (m : ℕ) → holds_at u m ≡ holds_at v m + times m (held_by_table r.unveiled.table)) (shared : Shares (files_on r.descriptors) [] c d) where
        pub forked-up : IsCountedUp u d qs
        forked-up = record {
          users = λ k. omega (
            arith,
            is.up.users k,
            shared.users k,
            ap (λ x. times k (used_in x.processes)) of-fork.state,
            times-put_new used_files k ps.processes (suc ps.last_process) (live (child (state_of t c ps) pid me)) fresh,
            ap (λ (x : Owned). times k (files_on x.descriptors)) own,
          );
          holds = λ m. omega (
            arith,
            is.up.holds m,
            holds m,
            more m,
            ap (λ x. times m (held_in x.processes)) of-fork.state,
            times-put_new held_by_process m ps.processes (suc ps.last_process) (live (child (state_of t c ps) pid me)) fresh,
            times-cons m me.directory (held_by_table me.table),
            ap (λ (x : Owned). times m (held_by_table x.unveiled.table)) own,
            ap (λ j. one_if j m) same-directory,
            ap (λ fs. times m (open_nodes fs)) shared.files,
          );
        }

        pub fork-performed : (s : State) → state_of t c ps ≡ s → IsCounted d → IsPresent u → u.tree ≡ t.tree → collected_attempt (fork s pid me) ≡ done 0 (state_of u d qs, returns n)
        fork-performed s view counted present tree =
            ap (λ x. collected_attempt (fork x pid me)) (sym view) ∙ ap collected_attempt answer
            ∙ ap (λ x. done 0 (x, returns n))
            (collect-parts (state_with t.tree c.files qs) u d qs forked-up counted is.counted.slots refl refl (ap (λ x. collected x u.holds) (sym tree) ∙ present.is_collected)
            (λ k used. ap (λ fs. at_number fs k) shared.files))
