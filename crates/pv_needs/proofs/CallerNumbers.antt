-- The numbers of the processes that make calls in a run.
use Rattle.std.proofs.Common.{◌≡◌, ◌∙◌, ℕ, suc, ◌≤◌, Bool, true, false, cond, nat_le, List, [], ◌∷◌, length, length-take, map, take, Option, None, Some, refl, sym, ap, subst, arith, pos, negsuc}
use Rattle.std.specs.Prelude.{◌==◌, ◌&&◌}
use Rattle.std.specs.List.{AllByRecursion, cons_option, filter, filter_map}
use Rattle.std.proofs.lemmas.Bool.{and_parts, leb-true, ne_eqb}
use Rattle.pv_model.specs.declared.call.Call.{Call}
use Rattle.pv_model.specs.declared.errno.Errno.TheVariants.{ENOSYS}
use Rattle.pv_model.specs.declared.outcome.Cause.TheVariants.{Promise as ByPromise}
use Rattle.pv_model.specs.Machine.{Answered, answer, answer_by_attempt, at_next_line, effect, update, with_front, Asked, Judged, asked, asked_by, is_refused, judged_walks, Attempt, done, refused, end_process, with_result, Effect, Reply, returns, returns_bytes, ends, waits, errno_number, program_of, collect, Next, calls_for, inside, next, Process, State, live, process_at, run, step, step_by, step_of, walks_of, is_unveil}
use Rattle.pv_model.specs.Answers.Needs.{and_asked, asked_by_one, asked_next, asked_of, judged}
use Rattle.pv_laws_access.proofs.EffectByCall.{does-effect}
use Rattle.pv_laws_access.proofs.CallEffects.{Did, HasEffect, stays, restrains, begins, closes, copies, forks, reaps, moves, cuts, writes_bytes, makes, links, unlinks, renames, opens, creates}
use Rattle.pv_laws_runs.proofs.ProgramRanges.{program_of-encodes}
use Rattle.pv_laws_states.specs.States.{IsValid, is_process_number}
use Rattle.pv_laws_states.proofs.AttemptValues.{Leads}
use Rattle.pv_laws_states.proofs.ValidBySteps.{step-keeps_valid}
use Rattle.pv_laws_states.proofs.ReferenceMembers.{find_number-list_all, live-found}
use Rattle.pv_laws_states.proofs.CallOutcomes.{at_call, by_answer}
use Rattle.pv_laws_states.proofs.Processes.{last_process-update}
use Rattle.pv_laws_states.proofs.CollectedStates.{last-collect}
use Rattle.pv_laws_states.proofs.ValidEnds.{last-end}
use Rattle.pv_needs.specs.Granted.{demands_of_step, demands_in}
use Rattle.pv_needs.proofs.KnownWalks.{by-unveil, walks-short}

-- ---- the last process number never decreases

last-reported : (s after : State) (pid : ℕ) (f : Process → Process) → s.last_process ≤ after.last_process → s.last_process ≤ (collect (update after pid f)).last_process
last-reported s after pid f low =
    let same = last-collect (update after pid f) ∙ last_process-update after pid f in subst (λ n. s.last_process ≤ n) (sym same) low

last-effect : (s : State) (pid : ℕ) (me : Process) (call : Call) (after : State) (r : Reply) → HasEffect s pid me call after r → s.last_process ≤ after.last_process
last-effect s pid me call _ _ (stays r waiting) = omega arith
last-effect s pid me call _ _ (restrains q r no_more same parent table goes) = omega arith
last-effect s pid me call _ _ (begins path program new) = omega arith
last-effect s pid me call _ _ (closes d) = omega arith
last-effect s pid me call _ _ (copies d x n found) = omega arith
last-effect s pid me call _ _ (forks new) = omega arith
last-effect s pid me call _ _ (reaps k r gone goes) = omega arith
last-effect s pid me call _ _ (moves k old new r found node mode named goes) = omega arith
last-effect s pid me call _ _ (cuts f bytes has) = omega arith
last-effect s pid me call _ _ (writes_bytes f bytes k old new n has found node mode named) = omega arith
last-effect s pid me call _ _ (makes place p node change free bare) = omega arith
last-effect s pid me call _ _ (links place p old n change from_old node fine) = omega arith
last-effect s pid me call _ _ (unlinks place p change) = omega arith
last-effect s pid me call _ _ (renames place p there q n from into node) = omega arith
last-effect s pid me call _ _ (opens flags place n m flagged allowed found fine written) = omega arith
last-effect s pid me call _ _ (creates flags place p m flagged allowed create named free fine) = omega arith

Later : State → Answered → Type 0
Later s a = s.last_process ≤ a.after.last_process

last-attempt : (before s : State) (pid : ℕ) (me : Process) (call : Call) (a : Attempt Effect) → before.last_process ≡ s.last_process → Leads (Did s pid me call) a
    → before.last_process ≤ (answer_by_attempt before s pid me a).after.last_process
last-attempt before s pid me call (done walks (after, returns n)) same did =
    last-reported before after pid (λ p. with_result p (pos n) 0) (subst (λ k. k ≤ after.last_process) (sym same) (last-effect s pid me call after (returns n) did))
last-attempt before s pid me call (done walks (after, returns_bytes n bytes)) same did =
    last-reported before after pid (λ p. with_front bytes (with_result p (pos n) 0))
    (subst (λ k. k ≤ after.last_process) (sym same) (last-effect s pid me call after (returns_bytes n bytes) did))
last-attempt before s pid me call (done walks (after, ends status)) same did =
    let recorded = last-collect (end_process after pid me status) ∙ last-end after pid me status in
    subst (λ k. before.last_process ≤ k) (sym recorded) (subst (λ k. k ≤ after.last_process) (sym same) (last-effect s pid me call after (ends status) did))
last-attempt before s pid me call (done walks (after, waits)) same did = omega arith
last-attempt before s pid me call (refused walks errno cause) same did =
    let recorded = last_process-update s pid (λ p. with_result p (negsuc 0) (errno_number errno)) ∙ sym same in omega (arith, recorded)

last-answer : (s : State) (pid : ℕ) (call : Call) → s.last_process ≤ (answer program_of s pid call).after.last_process
last-answer s pid call =
    by_answer (λ a. s.last_process ≤ a.after.last_process) program_of s pid call
    (λ none. omega arith)
    (λ me at met. last-attempt s (at_call s pid me) pid (at_next_line me) call (effect program_of (at_call s pid me) pid (at_next_line me) call) refl
    (does-effect program_of (at_call s pid me) pid (at_next_line me) call))
    (λ me p at missing lenient. last-attempt s (at_call s pid me) pid (at_next_line me) call (refused 0 ENOSYS (ByPromise p)) refl tt)
    (λ me p at missing strict. let recorded = last-collect (end_process s pid (at_next_line me) 6) ∙ last-end s pid (at_next_line me) 6 in omega (arith, recorded))

last-step : (s : State) (pid : ℕ) → s.last_process ≤ (step program_of s pid).after.last_process
unfolding step
last-step s pid = of (process_at s pid)
  where
    by : (p : Process) (n : Next) → s.last_process ≤ (step_by program_of s pid p n).after.last_process
    by p (inside q) = omega arith
    by p (calls_for call) = last-answer s pid call

    of : (o : Option Process) → s.last_process ≤ (step_of program_of s pid o).after.last_process
    of None = omega arith
    of (Some p) = by p (next p)

last-run : (pids : List ℕ) (s : State) → s.last_process ≤ (run program_of pids s).final.last_process
last-run [] s = omega arith
last-run (pid ∷ pids) s = omega (arith, last-step s pid, last-run pids (step program_of s pid).after)

-- ---- demands

-- a call of a process whose number was given, with at most two walks
pub record IsAsked (last : ℕ) (a : ℕ × Asked) : Type 0 where
  pub first : 1 ≤ a.0
  pub within : a.0 ≤ last
  pub walks : length a.1.walks ≤ 2

filter_map-fewer : {X Y : Type 0} (h : X → Option Y) (xs : List X) → length (filter_map h xs) ≤ length xs
filter_map-fewer h [] = omega arith
filter_map-fewer h (x ∷ xs) = by (h x) (filter_map-fewer h xs)
  where
    by : (o : Option _) → length (filter_map h xs) ≤ length xs → length (cons_option o (filter_map h xs)) ≤ suc (length xs)
    by None few = omega arith
    by (Some y) few = omega arith

judged-few : (s : State) (pid : ℕ) (p : Process) (call : Call) (n : ℕ) → length (judged_walks s p call n) ≤ 2
judged-few s pid p call n = subst (λ (js : List Judged). length js ≤ 2) (sym (by-unveil s pid p call n)) (by (is_unveil call))
  where
    by : (b : Bool) → length (cond b [] (filter_map (judged s p) (take n (walks_of call)))) ≤ 2
    by true = omega arith
    by false = omega (arith, filter_map-fewer (judged s p) (take n (walks_of call)), length-take n (walks_of call), walks-short call)

asked-step : (s : State) → IsValid s → (pid : ℕ) (now : Asked) → asked program_of s pid ≡ Some now → IsAsked s.last_process (pid, now)
unfolding asked
asked-step s whole pid now is = of (process_at s pid) refl is
  where
    by : (p : Process) → process_at s pid ≡ Some p → (n : Next) → asked_next program_of s pid p n ≡ Some now → IsAsked s.last_process (pid, now)
    by p at (inside q) is = cc is
    by p at (calls_for call) is =
        let number = find_number-list_all (is_process_number s.last_process) pid (live p) s.processes whole.processes.numbers (live-found s pid p at) in
        let parts = and_parts (nat_le 1 pid) (nat_le pid s.last_process) number in
        let same : asked_by s p call (answer program_of s pid call) ≡ now = cc is in
        record {
          first = leb-true 1 pid parts.0;
          within = leb-true pid s.last_process parts.1;
          walks = subst (λ (a : Asked). length a.walks ≤ 2) same (judged-few s pid p call (answer program_of s pid call).walks);
        }

    of : (o : Option Process) → process_at s pid ≡ o → asked_of program_of s pid o ≡ Some now → IsAsked s.last_process (pid, now)
    of None at is = cc is
    of (Some p) at is = by p at (next p) is

wider : (last more : ℕ) (all : List (ℕ × Asked)) → last ≤ more → AllByRecursion (IsAsked last) all → AllByRecursion (IsAsked more) all
wider last more [] low each = tt
wider last more (a ∷ all) low each = (record { first = each.0.first; within = omega (arith, each.0.within, low); walks = each.0.walks }, wider last more all low each.1)

-- a call that counts is a call
demanded : (b : Bool) (o : Option Asked) (now : Asked) → cond b None o ≡ Some now → o ≡ Some now
demanded true o now is = cc is
demanded false o now is = is

module _ (granted : Bool) where
  -- each call of a run is of this kind
  pub each-asked : (pids : List ℕ) (s : State) → IsValid s → AllByRecursion (IsAsked (run program_of pids s).final.last_process) (demands_in granted program_of pids s)
  each-asked [] s whole = tt
  each-asked (pid ∷ pids) s whole = by (demands_of_step granted program_of s pid) refl (each-asked pids after (step-keeps_valid program_of program_of-encodes s pid whole))
    where
      after : State
      after = (step program_of s pid).after

      last : ℕ
      last = (run program_of pids after).final.last_process

      by : (o : Option Asked) → demands_of_step granted program_of s pid ≡ o → AllByRecursion (IsAsked last) (demands_in granted program_of pids after)
          → AllByRecursion (IsAsked last) (and_asked program_of pid o (demands_in granted program_of pids after))
      by None is rest = rest
      by (Some now) is rest =
          let here = asked-step s whole pid now (demanded (granted && is_refused (step program_of s pid).outcome) (asked program_of s pid) now is) in
          (record { first = here.first; within = omega (arith, here.within, last-step s pid, last-run pids after); walks = here.walks }, rest)

  -- there are no more calls than steps
  pub asked-fewer : (pids : List ℕ) (s : State) → length (demands_in granted program_of pids s) ≤ length pids
  asked-fewer [] s = omega arith
  asked-fewer (pid ∷ pids) s = by (demands_of_step granted program_of s pid) (asked-fewer pids (step program_of s pid).after)
    where
      by : (o : Option Asked) → length (demands_in granted program_of pids (step program_of s pid).after) ≤ length pids
          → length (and_asked program_of pid o (demands_in granted program_of pids (step program_of s pid).after)) ≤ suc (length pids)
      by None few = omega arith
      by (Some now) few = omega arith

-- processes with other numbers make no calls
pub none-asked : (last pid : ℕ) (all : List (ℕ × Asked)) → AllByRecursion (IsAsked last) all → ((1 ≤ pid) × (pid ≤ last) → ⊥) → asked_by_one all pid ≡ []
none-asked last pid [] each apart = refl
none-asked last pid (a ∷ all) each apart =
    ap (λ (b : Bool). map (λ (x : ℕ × Asked). x.1) (cond b (a ∷ filter (λ x. x.0 == pid) all) (filter (λ x. x.0 == pid) all)))
    (ne_eqb a.0 pid (λ same. apart (subst (λ n. (1 ≤ n) × (n ≤ last)) same (each.0.first, each.0.within))))
    ∙ none-asked last pid all each.1 apart
