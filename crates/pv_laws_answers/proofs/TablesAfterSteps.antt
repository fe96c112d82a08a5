-- The tables after a successful unveil and after a fork.
use Rattle.std.proofs.Common.{◌≡◌, ◌≢◌, ◌⊎◌, inl, inr, ℕ, suc, pos, negsuc, Bool, true, false, ◌||◌, nat_le, nat_lt, length, Option, None, Some, Ok, refl, ap, sym, subst, ◌∙◌, ⊎_elim}
use Rattle.std.specs.FinMap.Entries.{is_sorted}
use Rattle.std.specs.Ordering.{nat_cmp}
use Rattle.std.proofs.lemmas.Bool.{cases_eq}
use Rattle.pv_model.specs.declared.call.Call.TheVariants as TheCall
use Rattle.pv_model.specs.declared.errno.Errno.{Errno}
use Rattle.pv_model.specs.declared.errno.Errno.TheVariants.{EINVAL, EAGAIN, ENOSYS}
use Rattle.pv_model.specs.declared.follow.Follow.TheVariants.{Last}
use Rattle.pv_model.specs.declared.outcome.Cause.{Cause}
use Rattle.pv_model.specs.declared.outcome.Cause.TheVariants.{Promise as ByPromise}
use Rattle.pv_model.specs.declared.outcome.Outcome.{Outcome}
use Rattle.pv_model.specs.declared.outcome.Outcome.TheVariants.{Value, Failed}
use Rattle.pv_model.specs.declared.perms.Perms.{Perms}
use Rattle.pv_model.specs.declared.place.Place.{Place}
use Rattle.pv_model.specs.Machine.{Answered, answer, answer_by_attempt, at_next_line, update, effect, Attempt, done, refused, ◌>>=◌, ◌>>◌, refuse_if, Bytes, with_result, end_process, child, fork, entries_of_table, refuse_if_locked, unveil, add_target, Effect, Reply, returns, returns_bytes, ends, waits, answers, walk_from, end_of, errno_number, collect, needs, no_permissions, read_permissions, missing_promise, Program, Process, State, process_at, with_process, Table, target_of, unveil_walk}
use Rattle.pv_laws_states.proofs.AttemptValues.{Leads, leads-demand, leads-walk, leads-then, leads-bind}
use Rattle.pv_laws_states.proofs.CallOutcomes.{at_call, by_answer}
use Rattle.pv_laws_states.proofs.Processes.{process_at-same, process_at-other}
use Rattle.pv_laws_states.proofs.CallRemainders
use Rattle.pv_laws_access.proofs.ProcessesAfterEnds.{process_at-collect, update-live, update-other, ended-not_live}
use Rattle.pv_laws_answers.proofs.AddedEntries.{IsAdded, leads-added}
use Rattle.pv_laws_answers.proofs.AskingCalls.{met-answer}

-- ---- an unveil

-- the result of an unveil of a path with permissions
record IsUnveiled (s : State) (pid : ℕ) (me : Process) (path text : Bytes) (after : State) (r : Reply) : Type 0 where
  place : Place
  permissions : Perms
  table : Table
  leads : end_of s me (unveil_walk path no_permissions) ≡ Ok place
  encoded : read_permissions text ≡ Some permissions
  added : IsAdded (entries_of_table me.table) (target_of s.tree place) permissions table
  left : after ≡ with_process s pid (record me { table = Some table })
  reported : r ≡ returns 0

module _ (s : State) (pid : ℕ) (me : Process) (path text : Bytes) where
  abbrev Unveils : Effect → Type 0
  Unveils (after, r) = IsUnveiled s pid me path text after r

  leads-unveil : Leads Unveils (unveil s pid me (Some path) (Some text))
  leads-unveil =
      leads-demand Unveils EINVAL (read_permissions text) (CallRemainders.unveil_1 s pid me path) (λ permissions encoded.
      leads-then Unveils (refuse_if_locked me.locked) (walk_from s me.directory Last path >>= CallRemainders.unveil_2 s pid me permissions)
      (leads-walk Unveils s me.directory Last path (CallRemainders.unveil_2 s pid me permissions) (λ place leads.
      leads-bind Unveils (IsAdded (entries_of_table me.table) (target_of s.tree place) permissions) (add_target s pid me (target_of s.tree place) permissions) (CallRemainders.unveil_3 s pid me)
      (leads-added (entries_of_table me.table) (target_of s.tree place) permissions)
      (λ table added. record {
        place = place;
        permissions = permissions;
        table = table;
        leads = leads;
        encoded = encoded;
        added = added;
        left = refl;
        reported = refl;
      }))))

-- the caller after a successful unveil
pub record HasUnveiled (s : State) (me q : Process) (path text : Bytes) : Type 0 where
  pub place : Place
  pub permissions : Perms
  pub leads : end_of s me (unveil_walk path no_permissions) ≡ Ok place
  pub encoded : read_permissions text ≡ Some permissions
  pub added : IsAdded (entries_of_table me.table) (target_of s.tree place) permissions (entries_of_table q.table)

abbrev pub IsNoValue : Outcome → Type 0
IsNoValue (Value n) = ⊥
IsNoValue outcome = Unit {0}

-- an unveil of a path with permissions sets an entry of the table, or leaves it unchanged; any other unveil leaves it
-- unchanged
abbrev pub UnveilLeft : State → Process → Option Bytes → Option Bytes → Process → Outcome → Type 0
UnveilLeft s me None text q o = q.table ≡ me.table
UnveilLeft s me (Some path) None q o = (q.table ≡ me.table) × IsNoValue o
UnveilLeft s me (Some path) (Some text) q o = ((o ≡ Value 0) × HasUnveiled s me q path text) ⊎ ((q.table ≡ me.table) × IsNoValue o)

unveil-refused : (s : State) (me q : Process) (path text : Option Bytes) (errno : Errno) (cause : Cause) → q.table ≡ me.table → UnveilLeft s me path text q (Failed errno cause)
unveil-refused s me q None text errno cause same = same
unveil-refused s me q (Some path) None errno cause same = (same, tt)
unveil-refused s me q (Some path) (Some text) errno cause same = inr (same, tt)

module _ (s : State) (pid : ℕ) (me : Process) where
  abbrev x : State
  x = at_call s pid me

  abbrev now : Process
  now = at_next_line me

  -- a changed caller that receives an answer
  reported-caller : (after : State) (new : Process) (f : Process → Process) (q : Process) → process_at after pid ≡ Some new → process_at (collect (update after pid f)) pid ≡ Some q → f new ≡ q
  reported-caller after new f q at there =
      let both : Some (f new) ≡ Some q = sym (process_at-collect (update after pid f) pid ∙ update-live after pid f new at) ∙ there in cc both

  refused-caller : (errno : Errno) (q : Process) → process_at (update x pid (λ p. with_result p (negsuc 0) (errno_number errno))) pid ≡ Some q → q.table ≡ me.table
  refused-caller errno q there =
      let both : Some (with_result now (negsuc 0) (errno_number errno)) ≡ Some q = sym (update-live x pid (λ p. with_result p (negsuc 0) (errno_number errno)) now (process_at-same s pid now)) ∙ there in
      let one : with_result now (negsuc 0) (errno_number errno) ≡ q = cc both in ap (λ (y : Process). y.table) (sym one)

  abbrev Left : Option Bytes → Option Bytes → Answered → Type 0
  Left path text a = (q : Process) → process_at a.after pid ≡ Some q → UnveilLeft s me path text q a.outcome

  left-by : (path text : Bytes) (a : Attempt Effect) → Leads (Unveils x pid now path text) a → Left (Some path) (Some text) (answer_by_attempt s x pid now a)
  left-by path text (done walks (after, returns m)) does q there =
      let reported : returns m ≡ returns 0 = does.reported in
      let none : m ≡ 0 = cc reported in
      let at : process_at after pid ≡ Some (record now { table = Some does.table }) = ap (λ y. process_at y pid) does.left ∙ process_at-same x pid (record now { table = Some does.table }) in
      let one = reported-caller after (record now { table = Some does.table }) (λ p. with_result p (pos m) 0) q at there in
      inl (
        ap Value none,
        subst (λ (y : Process). HasUnveiled s me y path text) one
            (record { place = does.place; permissions = does.permissions; leads = does.leads; encoded = does.encoded; added = does.added }),
      )
  left-by path text (done walks (after, returns_bytes m bytes)) does q there = let bad : returns_bytes m bytes ≡ returns 0 = does.reported in cc bad
  left-by path text (done walks (after, ends status)) does q there = let bad : ends status ≡ returns 0 = does.reported in cc bad
  left-by path text (done walks (after, waits)) does q there = let bad : waits ≡ returns 0 = does.reported in cc bad
  left-by path text (refused walks errno cause) does q there = inr (refused-caller errno q there, tt)

  left-any : (path text : Option Bytes) → Left path text (answer_by_attempt s x pid now (unveil x pid now path text))
  left-any (Some path) (Some text) = left-by path text (unveil x pid now (Some path) (Some text)) (leads-unveil x pid now path text)
  left-any (Some path) None = λ q there. (refused-caller EINVAL q there, tt)
  left-any None (Some text) = λ q there. refused-caller EINVAL q there
  left-any None None = λ q there.
      let closed = reported-caller (with_process x pid (record now { locked = true })) (record now { locked = true }) (λ p. with_result p (pos 0) 0) q (process_at-same x pid (record now { locked = true })) there in
      ap (λ (y : Process). y.table) (sym closed)

pub unveil-left : (program_of : Bytes → Option Program) (s : State) (pid : ℕ) (me : Process) (path text : Option Bytes) (q : Process) → is_sorted nat_cmp s.processes ≡ true → process_at s pid ≡ Some me
    → process_at (answer program_of s pid (TheCall.Unveil path text)).after pid ≡ Some q → UnveilLeft s me path text q (answer program_of s pid (TheCall.Unveil path text)).outcome
unfolding effect
unveil-left program_of s pid me path text q ascending at =
    by_answer (λ a. process_at a.after pid ≡ Some q → UnveilLeft s me path text q a.outcome) program_of s pid (TheCall.Unveil path text)
    (λ none. let both : None ≡ Some me = sym none ∙ at in cc both)
    (λ y found met.
    let both : Some y ≡ Some me = sym found ∙ at in
    let same : y ≡ me = cc both in
    subst (λ (z : Process). process_at (answer_by_attempt s (at_call s pid z) pid (at_next_line z) (unveil (at_call s pid z) pid (at_next_line z) path text)).after pid ≡ Some q
    → UnveilLeft s me path text q (answer_by_attempt s (at_call s pid z) pid (at_next_line z) (unveil (at_call s pid z) pid (at_next_line z) path text)).outcome) (sym same) (left-any s pid me path text q))
    (λ y lacks found missing lenient there.
    let both : Some y ≡ Some me = sym found ∙ at in
    let same : y ≡ me = cc both in
    unveil-refused s me q path text ENOSYS (ByPromise lacks)
    (refused-caller s pid me ENOSYS q (subst (λ (z : Process). process_at (update (at_call s pid z) pid (λ p. with_result p (negsuc 0) (errno_number ENOSYS))) pid ≡ Some q) same there)))
    (λ y lacks found missing strict there.
    absurd (ended-not_live s pid (at_next_line y) 6 ascending q (sym (process_at-collect (end_process s pid (at_next_line y) 6) pid) ∙ there)))

-- ---- a fork

-- a process that is live only after a fork is the child: the fork returned its number, and it has its parent's table
module _ (before x : State) (pid : ℕ) (now : Process) (k : ℕ) (q : Process) (fresh : process_at x k ≡ None) (apart : k ≢ pid) where
  abbrev IsChild : Answered → Type 0
  IsChild a = process_at a.after k ≡ Some q → (a.outcome ≡ Value k) × (q.table ≡ now.table)

  forks : IsChild (answer_by_attempt before x pid now (fork x pid now))
  forks = by (nat_le 32 (length x.processes) || nat_lt 99999 (suc x.last_process))
    where
      by : (b : Bool) → IsChild (answer_by_attempt before x pid now (refuse_if EAGAIN b >> answers (record (with_process x (suc x.last_process) (child x pid now)) { last_process = suc x.last_process }) (suc x.last_process)))
      by true there = let both : None ≡ Some q = sym (update-other x pid (λ p. with_result p (negsuc 0) (errno_number EAGAIN)) k apart ∙ fresh) ∙ there in cc both
      by false there =
          let born : State = record (with_process x (suc x.last_process) (child x pid now)) { last_process = suc x.last_process } in
          let found : process_at born k ≡ Some q =
          sym (process_at-collect (update born pid (λ p. with_result p (pos (suc x.last_process)) 0)) k ∙ update-other born pid (λ p. with_result p (pos (suc x.last_process)) 0) k apart) ∙ there in
          ⊎_elim
          (λ here.
          let both : Some (child x pid now) ≡ Some q = sym (ap (process_at born) here ∙ process_at-same x (suc x.last_process) (child x pid now)) ∙ found in
          let one : child x pid now ≡ q = cc both in
          (ap Value (sym here), ap (λ (y : Process). y.table) (sym one)))
          (λ away. let both : None ≡ Some q = sym (process_at-other x (suc x.last_process) (child x pid now) k away ∙ fresh) ∙ found in cc both)
          (cases_eq k (suc x.last_process))

pub fork-born : (program_of : Bytes → Option Program) (s : State) (pid : ℕ) (me : Process) (k : ℕ) (q : Process) → process_at s pid ≡ Some me → missing_promise me.promises (needs TheCall.Fork) ≡ None
    → process_at s k ≡ None → k ≢ pid → process_at (answer program_of s pid TheCall.Fork).after k ≡ Some q → ((answer program_of s pid TheCall.Fork).outcome ≡ Value k) × (q.table ≡ me.table)
unfolding effect
fork-born program_of s pid me k q at met fresh apart =
    subst (λ (a : Answered). process_at a.after k ≡ Some q → (a.outcome ≡ Value k) × (q.table ≡ me.table)) (sym (met-answer program_of s pid me TheCall.Fork at met))
    (forks s (at_call s pid me) pid (at_next_line me) k q (process_at-other s pid (at_next_line me) k apart ∙ fresh) apart)
