-- Parents have lesser numbers than their children, after every step.
use Rattle.std.proofs.Common.{◌≡◌, sym, subst, ℕ, suc, ◌<◌, ◌≤◌, pos, negsuc, Bool, true, false, cond, not, ◌==◌, if◌then◌else◌, nat_le, List, [], ◌∷◌, map, filter, Option, None, Some, is_some, refl, arith}
use Rattle.std.specs.FinMap.Entries.{find, put, by_order}
use Rattle.std.specs.List.{AllByRecursion}
use Rattle.std.specs.Ordering.{nat_cmp}
use Rattle.std.specs.declared.cmp.Ordering.{Ordering}
use Rattle.std.specs.declared.cmp.Ordering.TheVariants.{Less, Equal, Greater}
use Rattle.std.specs.Cmp.{nat_cmp_is}
use Rattle.std.proofs.lemmas.Bool.{and_parts, leb-true, eqb-true}
use Rattle.pv_model.specs.declared.call.Call.{Call}
use Rattle.pv_model.specs.declared.errno.Errno.TheVariants.{ENOSYS}
use Rattle.pv_model.specs.declared.outcome.Cause.TheVariants.{Promise as ByPromise}
use Rattle.pv_model.specs.Machine.{answer, answer_by_attempt, at_next_line, with_front, update_live, update, effect, Attempt, done, refused, Bytes, with_result, with_program, child, parent_of, adopt, adopter, is_unclaimed, end_process, Effect, Reply, returns, returns_bytes, ends, waits, errno_number, collect, Next, inside, calls_for, next, Program, Process, ProcessRecord, live, ended_record, State, first_state, process_at, with_process, Tree, step, step_of, step_by}
use Rattle.pv_model.specs.Calls.Processes.{with_parent}
use Rattle.pv_laws_states.specs.States.{IsValid, is_process_number}
use Rattle.pv_laws_states.proofs.AttemptValues.{Leads}
use Rattle.pv_laws_states.proofs.ValidBySteps.{IsGoodNext, good-next}
use Rattle.pv_laws_states.proofs.ReferenceMembers.{find_number_cases, find_number-list_all, live-found}
use Rattle.pv_laws_states.proofs.CallOutcomes.{at_call, by_answer}
use Rattle.pv_laws_states.proofs.CollectedStates.{processes-collect}
use Rattle.pv_laws_access.proofs.EffectByCall.{does-effect}
use Rattle.pv_laws_access.proofs.CallEffects.{HasEffect, stays, restrains, begins, closes, copies, forks, reaps, moves, cuts, writes_bytes, makes, links, unlinks, renames, opens, creates, Did}
use Rattle.pv_laws_answers.specs.Waits.{ParentsHaveLesserNumbers}

abbrev Recorded : Type 0
Recorded = ℕ × ProcessRecord

abbrev IsOlder : Recorded → Type 0
IsOlder r = parent_of r.1 < r.0

abbrev AllOlder : List Recorded → Type 0
AllOlder rs = AllByRecursion IsOlder rs

older-put : (k : ℕ) (r : ProcessRecord) (rs : List Recorded) → parent_of r < k → AllOlder rs → AllOlder (put nat_cmp k r rs)
older-put k r [] below all = (below, tt)
older-put k r (e ∷ es) below all =
    let rest = older-put k r es below all.1 in
    by (nat_cmp k e.0) refl rest
  where
    by : (o : Ordering) → nat_cmp k e.0 ≡ o → AllOlder (put nat_cmp k r es) → AllOlder (by_order o ((k, r) ∷ e ∷ es) ((e.0, r) ∷ es) (e ∷ put nat_cmp k r es))
    by Less is rest = (below, all)
    by Equal is rest = (grind (arith, nat_cmp_is, is, below), all.1)
    by Greater is rest = (all.0, rest)

older-filter : (test : Recorded → Bool) (rs : List Recorded) → AllOlder rs → AllOlder (filter test rs)
older-filter test [] all = tt
older-filter test (r ∷ rs) all = by (test r) (older-filter test rs all.1)
  where
    by : (b : Bool) → AllOlder (filter test rs) → AllOlder (cond b (r ∷ filter test rs) (filter test rs))
    by true rest = (all.0, rest)
    by false rest = rest

older-found : (k : ℕ) (r : ProcessRecord) (rs : List Recorded) → AllOlder rs → find nat_cmp k rs ≡ Some r → parent_of r < k
older-found k r [] all is = cc
older-found k r (e ∷ es) all is =
    find_number_cases (parent_of r < k) k r e es is (λ same value. let below : parent_of e.1 < e.0 = all.0 in subst (λ (x : ProcessRecord). parent_of x < k) value (omega arith)) (λ there. older-found k r es all.1 there)

pub older-at : (s : State) (pid : ℕ) (p : Process) → ParentsHaveLesserNumbers s → process_at s pid ≡ Some p → p.parent < pid
older-at s pid p all is = older-found pid (live p) s.processes all (live-found s pid p is)

-- a child is adopted by process 1 or by nobody
older-adopt : (old new : ℕ) (rs : List Recorded) → new ≤ 1 → 1 ≤ old → AllOlder rs → AllOlder (map (adopt old new) rs)
older-adopt old new [] low some all = tt
older-adopt old new (r ∷ rs) low some all = (by (parent_of r.1 == old) refl r.1 refl all.0, older-adopt old new rs low some all.1)
  where
    by : (b : Bool) → (parent_of r.1 == old) ≡ b → (x : ProcessRecord) → r.1 ≡ x → parent_of r.1 < r.0 → IsOlder (if b then (r.0, with_parent r.1 new) else r)
    by false is x same below = below
    by true is x same below = subst (λ (n : ℕ). n < r.0) (sym (named r.1)) (let e = eqb-true (parent_of r.1) old is in omega arith)
      where
        named : (x : ProcessRecord) → parent_of (with_parent x new) ≡ new
        named (live p) = refl
        named (ended_record parent status) = refl

pub first-older : (t : Tree) (program : Program) → ParentsHaveLesserNumbers (first_state t program)
first-older t program = (omega arith, tt)

adopter-low : (s : State) → adopter s ≤ 1
adopter-low s = elim (is_some (process_at s 1)) as (λ b. (if b then 1 else 0) ≤ 1) [ true ↦ omega arith | false ↦ omega arith ]

older-with : (s : State) (pid : ℕ) (q : Process) → ParentsHaveLesserNumbers s → q.parent < pid → ParentsHaveLesserNumbers (with_process s pid q)
older-with s pid q all below = older-put pid (live q) s.processes below all

-- a caller at its next line
pub older-called : (s : State) (pid : ℕ) (me : Process) → ParentsHaveLesserNumbers s → process_at s pid ≡ Some me → ParentsHaveLesserNumbers (at_call s pid me)
older-called s pid me all at = older-with s pid (at_next_line me) all (older-at s pid me all at)

-- the end of a process
older-end : (s : State) (pid : ℕ) (me : Process) (status : ℕ) → ParentsHaveLesserNumbers s → me.parent < pid → ParentsHaveLesserNumbers (end_process s pid me status)
unfolding end_process
older-end s pid me status all below =
    let put_away : State = record s { processes = put nat_cmp pid (ended_record me.parent status) s.processes } in
    older-filter (λ r. not (is_unclaimed r.1)) (map (adopt pid (adopter put_away)) put_away.processes)
    (older-adopt pid (adopter put_away) put_away.processes (adopter-low put_away) (omega arith) (older-put pid (ended_record me.parent status) s.processes below all))

older-collect : (s : State) → ParentsHaveLesserNumbers s → ParentsHaveLesserNumbers (collect s)
older-collect s all = subst AllOlder (sym (processes-collect s)) all

-- a process that receives an answer
older-update : (s : State) (pid : ℕ) (f : Process → Process) → ((p : Process) → (f p).parent ≡ p.parent) → ParentsHaveLesserNumbers s → ParentsHaveLesserNumbers (update s pid f)
older-update s pid f same all = by (process_at s pid) refl
  where
    by : (o : Option Process) → process_at s pid ≡ o → ParentsHaveLesserNumbers (update_live s pid f o)
    by None none = all
    by (Some p) at = older-with s pid (f p) all (subst (λ (n : ℕ). n < pid) (sym (same p)) (older-at s pid p all at))

module _ (s : State) (pid : ℕ) (me : Process) (call : Call) (all : ParentsHaveLesserNumbers s) (below : me.parent < pid) (last : pid ≤ s.last_process) where
  older-effect : (after : State) (r : Reply) → HasEffect s pid me call after r → ParentsHaveLesserNumbers after
  older-effect _ _ (stays r waiting) = all
  older-effect _ _ (restrains q r no_more same parent table goes) = older-with s pid q all (subst (λ (n : ℕ). n < pid) (sym parent) below)
  older-effect _ _ (begins path program is) = older-with s pid (with_program s pid me program) all below
  older-effect _ _ (closes d) = older-with s pid _ all below
  older-effect _ _ (copies d x n is) = older-with s pid _ all below
  older-effect _ _ (forks is) = older-with s (suc s.last_process) (child s pid me) all (omega arith)
  older-effect _ _ (reaps k r ended goes) = older-filter (λ e. not (e.0 == k)) s.processes all
  older-effect _ _ (moves k old new r there node mode named goes) = all
  older-effect _ _ (cuts f bytes has) = all
  older-effect _ _ (writes_bytes f bytes k old new n has there node mode named) = all
  older-effect _ _ (makes place p node change none bare) = all
  older-effect _ _ (links place p old n change from_old is fine) = all
  older-effect _ _ (unlinks place p change) = all
  older-effect _ _ (renames place p there q n from into is) = all
  older-effect _ _ (opens flags place n m flagged allowed is fine written) = older-with s pid _ all below
  older-effect _ _ (creates flags place p m flagged allowed create named none fine) = older-with s pid _ all below

  older-did : (a : Attempt Effect) (before : State) → ParentsHaveLesserNumbers before → Leads (Did s pid me call) a → ParentsHaveLesserNumbers (answer_by_attempt before s pid me a).after
  older-did (done walks (after, returns n)) before was does =
      older-collect (update after pid (λ p. with_result p (pos n) 0)) (older-update after pid (λ p. with_result p (pos n) 0) (λ p. refl) (older-effect after (returns n) does))
  older-did (done walks (after, returns_bytes n bytes)) before was does =
      older-collect (update after pid (λ p. with_front bytes (with_result p (pos n) 0)))
      (older-update after pid (λ p. with_front bytes (with_result p (pos n) 0)) (λ p. refl) (older-effect after (returns_bytes n bytes) does))
  older-did (done walks (after, ends status)) before was does = older-collect (end_process after pid me status) (older-end after pid me status (older-effect after (ends status) does) below)
  older-did (done walks (after, waits)) before was does = was
  older-did (refused walks errno cause) before was does = older-update s pid (λ p. with_result p (negsuc 0) (errno_number errno)) (λ p. refl) all

number-low : (s : State) (pid : ℕ) (p : Process) → IsValid s → process_at s pid ≡ Some p → pid ≤ s.last_process
number-low s pid p whole at =
    let number = find_number-list_all (is_process_number s.last_process) pid (live p) s.processes whole.processes.numbers (live-found s pid p at) in
    leb-true pid s.last_process (and_parts (nat_le 1 pid) _ number).1

pub older-answer : (program_of : Bytes → Option Program) (s : State) (pid : ℕ) (call : Call) → IsValid s → ParentsHaveLesserNumbers s → ParentsHaveLesserNumbers (answer program_of s pid call).after
older-answer program_of s pid call whole all =
    by_answer (λ a. ParentsHaveLesserNumbers a.after) program_of s pid call
    (λ none. all)
    (λ me at missing. older-did (at_call s pid me) pid (at_next_line me) call (older-called s pid me all at) (older-at s pid me all at) (number-low s pid me whole at)
    (effect program_of (at_call s pid me) pid (at_next_line me) call) s all (does-effect program_of (at_call s pid me) pid (at_next_line me) call))
    (λ me p at missing lenient. older-did (at_call s pid me) pid (at_next_line me) call (older-called s pid me all at) (older-at s pid me all at) (number-low s pid me whole at) (refused 0 ENOSYS (ByPromise p)) s all tt)
    (λ me p at missing lenient. older-collect (end_process s pid (at_next_line me) 6) (older-end s pid (at_next_line me) 6 all (older-at s pid me all at)))

-- each step preserves this
pub older-step : (program_of : Bytes → Option Program) (s : State) (pid : ℕ) → IsValid s → ParentsHaveLesserNumbers s → ParentsHaveLesserNumbers (step program_of s pid).after
unfolding step
older-step program_of s pid whole all = at_process (process_at s pid) refl
  where
    by : (p : Process) → process_at s pid ≡ Some p → (n : Next) → IsGoodNext p n → ParentsHaveLesserNumbers (step_by program_of s pid p n).after
    by p at (inside q) good = older-with s pid q all (subst (λ (n : ℕ). n < pid) (sym good.1.parent) (older-at s pid p all at))
    by p at (calls_for call) good = older-answer program_of s pid call whole all

    at_process : (o : Option Process) → process_at s pid ≡ o → ParentsHaveLesserNumbers (step_of program_of s pid o).after
    at_process None none = all
    at_process (Some p) at = by p at (next p) (good-next p (whole.processes.running pid p at))
