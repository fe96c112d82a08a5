-- The answer of a wait that finds an ended child.
use Rattle.std.proofs.Common.{◌≡◌, ◌≢◌, ℕ, ◌≤◌, Bool, true, false, not, ◌==◌, [], ◌∷◌, List, filter, Some, is_some, refl, ap, ap₂, sym, subst, ◌∙◌}
use Rattle.std.specs.FinMap.Entries.{find}
use Rattle.std.specs.Ordering.{nat_cmp}
use Rattle.std.specs.Prelude.{IsSome}
use Rattle.std.proofs.lemmas.Bool.{ne_eqb}
use Rattle.pv_calls_plain.specs.declared.answer.Done.{Done}
use Rattle.pv_calls_state.specs.Attempts.{collected_attempt}
use Rattle.pv_model.specs.declared.errno.Errno.TheVariants.{ECHILD}
use Rattle.pv_model.specs.Machine.{Answered, answer_by_attempt, Attempt, done, refused, ◌>>◌, refuse_if, Bytes, is_empty, little_endian, parent_of, statuses, children, reap, wait, Effect, returns, returns_bytes, ends, waits, collect, Process, live, ended_record, State, process_at}
use Rattle.pv_laws_states.specs.States.{IsValid}
use Rattle.pv_laws_states.proofs.AttemptValues.{Leads}
use Rattle.pv_laws_states.proofs.ValidByTable.{first-ended, good-wait}
use Rattle.pv_laws_states.proofs.ValidEnds.{filtered-found}
use Rattle.pv_laws_states.proofs.ReferenceMembers.{live-found, found-live}
use Rattle.pv_laws_states.proofs.ValidReplies.{IsEffect}
use Rattle.pv_calls_plain.proofs.ReportedCollections.{process_at-collect}

pub value_of : (a b : ℕ) (x y : Effect) → done a x ≡ done b y → x ≡ y
value_of a b x y is = cc is

-- a value that comes with bytes fits a register
pub low-bytes : (s new : State) (a : Attempt Effect) (n value : ℕ) (bytes : Bytes) → Leads (IsEffect s) a → collected_attempt a ≡ done n (new, returns_bytes value bytes) → value ≤ 2147483647
low-bytes s new (done walks (after, returns m)) n value bytes good is =
    let reply : returns m ≡ returns_bytes value bytes = ap (λ (x : Effect). x.1) (value_of walks n (collect after, returns m) (new, returns_bytes value bytes) is) in cc reply
low-bytes s new (done walks (after, returns_bytes m other)) n value bytes good is =
    let reply : returns_bytes m other ≡ returns_bytes value bytes = ap (λ (x : Effect). x.1) (value_of walks n (collect after, returns_bytes m other) (new, returns_bytes value bytes) is) in
    let same : m ≡ value = cc reply in subst (λ k. k ≤ 2147483647) same good.1
low-bytes s new (done walks (after, ends status)) n value bytes good is =
    let reply : ends status ≡ returns_bytes value bytes = ap (λ (x : Effect). x.1) (value_of walks n (collect after, ends status) (new, returns_bytes value bytes) is) in cc reply
low-bytes s new (done walks (after, waits)) n value bytes good is =
    let reply : waits ≡ returns_bytes value bytes = ap (λ (x : Effect). x.1) (value_of walks n (collect after, waits) (new, returns_bytes value bytes) is) in cc reply
low-bytes s new (refused walks errno cause) n value bytes good is = cc

-- the report of an attempt with bytes is the same for each attempt with the same collected state
pub reported-alike : (before s new : State) (pid : ℕ) (me : Process) (a : Attempt Effect) (d : Done) (bytes : Bytes) (x : Answered) → collected_attempt a ≡ done d.walks (new, returns_bytes d.value bytes)
    → ((after : State) → collect after ≡ new → answer_by_attempt before s pid me (done d.walks (after, returns_bytes d.value bytes)) ≡ x) → answer_by_attempt before s pid me a ≡ x
reported-alike before s new pid me (done walks (after, reply)) d bytes x is reported =
    let pair = value_of walks d.walks (collect after, reply) (new, returns_bytes d.value bytes) is in
    let begun : walks ≡ d.walks = cc is in
    let says : reply ≡ returns_bytes d.value bytes = ap (λ (x : Effect). x.1) pair in
    ap₂ (λ w r. answer_by_attempt before s pid me (done w (after, r))) begun says ∙ reported after (ap (λ (x : Effect). x.0) pair)
reported-alike before s new pid me (refused walks errno cause) d bytes x is reported = cc

module _ (s new : State) (pid : ℕ) (me : Process) (whole : IsValid s) (at : process_at s pid ≡ Some me) (number status : ℕ)
    (is : collected_attempt (wait s pid me) ≡ done 0 (new, returns_bytes number (little_endian 4 status))) where
  pub low-child : number ≤ 2147483647
  low-child = low-bytes s new (wait s pid me) 0 number (little_endian 4 status) (good-wait s pid me whole at) is

  -- the process that waits is live
  pub waiter-lives : IsSome (process_at new pid)
  waiter-lives = by (is_empty (children s pid me)) (statuses (children s pid me)) refl is
    where
      stays : (k parent code : ℕ) → find nat_cmp k s.processes ≡ Some (ended_record parent code) → process_at (record s { processes = filter (λ r. not (r.0 == k)) s.processes }) pid ≡ Some me
      stays k parent code ended =
          let there = live-found s pid me at in
          let other : pid ≢ k = λ same. let eq : Some (live me) ≡ Some (ended_record parent code) = sym there ∙ ap (λ n. find nat_cmp n s.processes) same ∙ ended in cc eq in
          found-live (record s { processes = filter (λ r. not (r.0 == k)) s.processes }) pid me
          (filtered-found (λ r. not (r.0 == k)) s.processes pid (live me) there (ap not (ne_eqb pid k other)))

      by : (b : Bool) (ss : List (ℕ × ℕ)) → statuses (children s pid me) ≡ ss → collected_attempt (refuse_if ECHILD b >> reap s pid me ss) ≡ done 0 (new, returns_bytes number (little_endian 4 status))
          → IsSome (process_at new pid)
      by true ss are is = cc
      by false [] are is =
          let reply : waits ≡ returns_bytes number (little_endian 4 status) = ap (λ (x : Effect). x.1) (value_of 0 0 (collect s, waits) (new, returns_bytes number (little_endian 4 status)) is) in cc reply
      by false ((k, code) ∷ rs) are is =
          let after : State = record s { processes = filter (λ r. not (r.0 == k)) s.processes } in
          let left = ap (λ (x : Effect). x.0) (value_of 0 0 (collect after, returns_bytes k (little_endian 4 code)) (new, returns_bytes number (little_endian 4 status)) is) in
          let ended = first-ended s.processes (λ r. parent_of r.1 == pid) whole.processes.ascending k code rs are in
          ap is_some (ap (λ x. process_at x pid) (sym left) ∙ process_at-collect after pid ∙ stays k ended.0 code ended.1)
