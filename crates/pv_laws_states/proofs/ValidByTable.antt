-- fork and wait preserve validity.
use Rattle.std.proofs.Common.{◌≡◌, ◌≢◌, ℕ, suc, ◌+◌, ◌<◌, ◌≤◌, pos, Bool, true, false, cond, not, ◌||◌, ◌==◌, nat_le, nat_lt, List, [], ◌∷◌, filter, length, Option, None, Some, is_some, refl, ap, sym, subst, ◌∙◌, arith}
use Rattle.std.specs.Ordering.{nat_cmp, is_eq}
use Rattle.std.specs.FinMap.Entries.{find, put, is_sorted, below_all, length-put}
use Rattle.std.proofs.lemmas.Bool.{and_parts, and_from, or_parts, leb-true, leb-false, le-leb, ltb-false, ne_eqb}
use Rattle.std.proofs.lemmas.Cmp.{nat_cmp_total}
use Rattle.pv_model.specs.declared.errno.Errno.TheVariants.{EAGAIN, ECHILD}
use Rattle.pv_model.specs.Machine.{refuse_if, is_empty, parent_of, statuses, child, fork, children, reap, wait, answers, Process, ProcessRecord, live, ended_record, State, process_at, with_process}
use Rattle.pv_laws_states.specs.States.{IsRunning, IsPlaced, is_process_number, IsValid}
use Rattle.pv_laws_states.proofs.AttemptValues.{Leads, leads-then, leads-refuse_if}
use Rattle.pv_laws_states.proofs.ValidEnds.{sorted-filtered, found-filtered, filtered-found, running-parent}
use Rattle.pv_laws_trees.proofs.DirectoryEntries.{report, list_all-filter}
use Rattle.pv_laws_states.proofs.ReferenceMembers.{find_number_after, find_number-list_all, live-found, found-live}
use Rattle.pv_laws_trees.proofs.WalkPlaces.{list_all-weaker}
use Rattle.pv_laws_trees.proofs.ListTests.{filter-fewer}
use Rattle.pv_laws_trees.proofs.ImageBytes.{length-little_endian}
use Rattle.pv_laws_states.proofs.Processes.{number-itself}
use Rattle.pv_laws_states.proofs.ValidReplies.{IsEffect}
use Rattle.pv_laws_states.proofs.ProcessInsides.{IsReady, running-result, bytes-little_endian}
use Rattle.pv_laws_states.proofs.ChangedStates.{my-running, my-placed}
use Rattle.pv_laws_states.proofs.ValidStates.{has_room, list_all-put_number, sorted-put_number, put-cases, with_process-cases, still-live}

-- the first ended child is a child
pub first-ended : (ps : List (ℕ × ProcessRecord)) (mine : ℕ × ProcessRecord → Bool) → is_sorted nat_cmp ps ≡ true → (k status : ℕ) (rs : List (ℕ × ℕ)) → statuses (filter mine ps) ≡ (k, status) ∷ rs
    → (parent : ℕ) × (find nat_cmp k ps ≡ Some (ended_record parent status))
first-ended [] mine sorted k status rs is = cc
first-ended ((n, r) ∷ ps) mine sorted k status rs is =
    let rest : statuses (filter mine ps) ≡ (k, status) ∷ rs → (parent : ℕ) × (find nat_cmp k ((n, r) ∷ ps) ≡ Some (ended_record parent status)) =
    λ there. let found = first-ended ps mine (and_parts (below_all nat_cmp n ps) _ sorted).1 k status rs there in (found.0, find_number_after k (ended_record found.0 status) (n, r) ps sorted found.1) in
    elim (mine (n, r)) as (λ b. statuses (cond b ((n, r) ∷ filter mine ps) (filter mine ps)) ≡ (k, status) ∷ rs → (parent : ℕ) × (find nat_cmp k ((n, r) ∷ ps) ≡ Some (ended_record parent status))) [
      | true ↦ λ at_head. head n r ps (filter mine ps) k status rs at_head rest
      | false ↦ λ there. rest there
    ] is
  where
    head : (n : ℕ) (r : ProcessRecord) (ps qs : List (ℕ × ProcessRecord)) (k status : ℕ) (rs : List (ℕ × ℕ)) → statuses ((n, r) ∷ qs) ≡ (k, status) ∷ rs
        → (statuses qs ≡ (k, status) ∷ rs → (parent : ℕ) × (find nat_cmp k ((n, r) ∷ ps) ≡ Some (ended_record parent status)))
        → (parent : ℕ) × (find nat_cmp k ((n, r) ∷ ps) ≡ Some (ended_record parent status))
    head n (live p) ps qs k status rs is rest = rest is
    head n (ended_record parent code) ps qs k status rs is rest =
        let pair : ◌≡◌ {A = ℕ × ℕ} (n, code) (k, status) = cc is in
        let number : n ≡ k = ap (λ (p : ℕ × ℕ). p.0) pair in
        let left : code ≡ status = ap (λ (p : ℕ × ℕ). p.1) pair in (
          parent,
          ap (λ q. find nat_cmp q ((n, ended_record parent code) ∷ ps)) (sym number)
              ∙ ap (λ o. cond (is_eq o) (Some (ended_record parent code)) (find nat_cmp n ps)) (number-itself n) ∙ ap (λ c. Some (ended_record parent c)) left,
        )

module _ (s : State) (pid : ℕ) (me : Process) (whole : IsValid s) (at : process_at s pid ≡ Some me) where
  abbrev number : ℕ
  number = suc s.last_process

  abbrev forked : State
  forked = record (with_process s number (child s pid me)) { last_process = number }

  longer-put : length (put nat_cmp number (live (child s pid me)) s.processes) ≤ suc (length s.processes)
  longer-put =
      elim (is_some (find nat_cmp number s.processes)) as (λ b. length (put nat_cmp number (live (child s pid me)) s.processes) ≡ cond b (length s.processes) (length s.processes + 1)
      → length (put nat_cmp number (live (child s pid me)) s.processes) ≤ suc (length s.processes)) [
        | true ↦ λ long. omega arith
        | false ↦ λ long. omega arith
      ] (length-put nat_cmp nat_cmp_total number (live (child s pid me)) s.processes (report _ whole.processes.ascending))

  ready-forked : length s.processes < 32 → number ≤ 99999 → IsReady forked
  ready-forked few low = record {
    solid = record {
      tree = whole.tree;
      files = whole.files;
      processes = record {
        ascending = sorted-put_number number (live (child s pid me)) s.processes whole.processes.ascending;
        numbers = list_all-put_number (is_process_number number) number (live (child s pid me)) s.processes
            (and_from _ _ (le-leb 1 number (omega arith)) (le-leb number number (omega arith)))
            (list_all-weaker (λ (r : ℕ × ProcessRecord). is_process_number s.last_process r.0) (λ r. is_process_number number r.0)
            (λ r is. let parts = and_parts (nat_le 1 r.0) (nat_le r.0 s.last_process) is in and_from _ _ parts.0 (le-leb r.0 number (omega (arith, leb-true r.0 s.last_process parts.1)))) s.processes whole.processes.numbers);
        count = omega (arith, longer-put);
        last = (omega arith, low);
        running = λ k r is. with_process-cases (IsRunning r) s number (child s pid me) k r is
            (λ same value. subst IsRunning value (running-result (record me { parent = pid }) (pos 0) 0 refl refl (running-parent me pid (my-running s pid me whole at))))
            (λ other was. whole.processes.running k r was);
        placed = λ k r is. with_process-cases (IsPlaced s.tree s.files r) s number (child s pid me) k r is
            (λ same value. subst (IsPlaced s.tree s.files) value
            (let p = my-placed s pid me whole at in record { directory = p.directory; descriptors = p.descriptors; opens = p.opens; table = p.table }))
            (λ other was. whole.processes.placed k r was);
        first = λ r is. with_process-cases (r.parent ≡ 0) s number (child s pid me) 1 r is
            (λ same value. absurd (omega (arith, whole.processes.last.0, same))) (λ other was. whole.processes.first r was);
        parents = λ k r is has. still-live s number (child s pid me) (parent_of r) (put-cases (is_some (process_at s (parent_of r)) ≡ true) s number (child s pid me) k r is
            (λ same value. let eq : parent_of r ≡ pid = ap parent_of value in ap (λ n. is_some (process_at s n)) eq ∙ ap is_some at)
            (λ other was. whole.processes.parents k r was has));
        ended = λ k above status is. put-cases ((above ≢ 0) × (status ≤ 65535)) s number (child s pid me) k (ended_record above status) is (λ same value. cc value) (λ other was. whole.processes.ended k above status was);
      };
    };
    room = has_room forked whole.fits whole.not_too_long;
  }

  pub good-fork : Leads (IsEffect s) (fork s pid me)
  good-fork =
      leads-refuse_if (IsEffect s) EAGAIN (nat_le 32 (length s.processes) || nat_lt 99999 number) (answers forked number) (λ is.
      let parts = or_parts (nat_le 32 (length s.processes)) (nat_lt 99999 number) is in
      let few : length s.processes < 32 = leb-false 32 (length s.processes) parts.0 in
      let low : number ≤ 99999 = ltb-false 99999 number parts.1 in
      (ready-forked few low, omega arith))

  abbrev spared : ℕ → ℕ × ProcessRecord → Bool
  spared k r = not (r.0 == k)

  abbrev reaped : ℕ → State
  reaped k = record s { processes = filter (spared k) s.processes }

  ready-reaped : (k parent status : ℕ) → find nat_cmp k s.processes ≡ Some (ended_record parent status) → IsReady (reaped k)
  ready-reaped k parent status ended = record {
    solid = record {
      tree = whole.tree;
      files = whole.files;
      processes = record {
        ascending = sorted-filtered (spared k) s.processes whole.processes.ascending;
        numbers = list_all-filter (λ (r : ℕ × ProcessRecord). is_process_number s.last_process r.0) (spared k) s.processes whole.processes.numbers;
        count = omega (arith, filter-fewer (spared k) s.processes, whole.processes.count);
        last = whole.processes.last;
        running = λ j r is. whole.processes.running j r (was j r is);
        placed = λ j r is. whole.processes.placed j r (was j r is);
        first = λ r is. whole.processes.first r (was 1 r is);
        parents = λ j r is has. still (parent_of r) (whole.processes.parents j r (found-filtered (spared k) s.processes whole.processes.ascending j r is).0 has);
        ended = λ j above code is. whole.processes.ended j above code (found-filtered (spared k) s.processes whole.processes.ascending j (ended_record above code) is).0;
      };
    };
    room = has_room (reaped k) whole.fits whole.not_too_long;
  }
    where
      was : (j : ℕ) (r : Process) → process_at (reaped k) j ≡ Some r → process_at s j ≡ Some r
      was j r is = found-live s j r (found-filtered (spared k) s.processes whole.processes.ascending j (live r) (live-found (reaped k) j r is)).0

      still : (j : ℕ) → is_some (process_at s j) ≡ true → is_some (process_at (reaped k) j) ≡ true
      still j is = by (process_at s j) refl is
        where
          by : (o : Option Process) → process_at s j ≡ o → is_some o ≡ true → is_some (process_at (reaped k) j) ≡ true
          by None none is = cc
          by (Some q) found is =
              let there = live-found s j q found in
              let other : j ≢ k = λ same. let eq : Some (live q) ≡ Some (ended_record parent status) = sym there ∙ ap (λ n. find nat_cmp n s.processes) same ∙ ended in cc eq in
              ap is_some (found-live (reaped k) j q (filtered-found (spared k) s.processes j (live q) there (ap not (ne_eqb j k other))))

  good-reap : (ss : List (ℕ × ℕ)) → statuses (children s pid me) ≡ ss → Leads (IsEffect s) (reap s pid me ss)
  good-reap [] is = tt
  good-reap ((k, status) ∷ rs) is =
      let ended = first-ended s.processes (λ r. parent_of r.1 == pid) whole.processes.ascending k status rs is in
      let number = find_number-list_all (is_process_number s.last_process) k (ended_record ended.0 status) s.processes whole.processes.numbers ended.1 in (
        ready-reaped k ended.0 status ended.1,
        omega (arith, leb-true k s.last_process (and_parts (nat_le 1 k) (nat_le k s.last_process) number).1, whole.processes.last.1),
        omega (arith, length-little_endian 4 status),
        bytes-little_endian 4 status,
      )

  pub good-wait : Leads (IsEffect s) (wait s pid me)
  good-wait = leads-then (IsEffect s) (refuse_if ECHILD (is_empty (children s pid me))) (reap s pid me (statuses (children s pid me))) (good-reap (statuses (children s pid me)) refl)
