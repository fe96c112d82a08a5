-- The last process number given, and the live processes.
use Rattle.std.proofs.Common.{◌≡◌, inl, inr, ⊎_elim, ◌∙◌, sym, ap, subst, ℕ, suc, ◌+◌, true, false, pos, negsuc, Option, None, Some, is_some, IsSome, refl, add-one}
use Rattle.std.specs.FinMap.Entries.{find}
use Rattle.std.specs.Ordering.{nat_cmp}
use Rattle.std.proofs.lemmas.Bool.{cases_eq}
use Rattle.pv_model.specs.declared.call.Call.{Call}
use Rattle.pv_model.specs.declared.errno.Errno.TheVariants.{ENOSYS}
use Rattle.pv_model.specs.declared.outcome.Cause.TheVariants.{Promise as ByPromise}
use Rattle.pv_model.specs.Machine.{answer, answer_by_attempt, at_next_line, effect, update, with_front, Attempt, done, refused, child, end_process, with_result, Effect, Reply, returns, returns_bytes, ends, waits, errno_number, program_of, collect, Next, calls_for, inside, next, Process, State, live_process, process_at, step, step_by, step_of}
use Rattle.pv_laws_access.proofs.EffectByCall.{does-effect}
use Rattle.pv_laws_access.proofs.ProcessesAfterEnds.{process_at-collect, update-live, update-other, valid-in_order}
use Rattle.pv_laws_access.proofs.CallEffects.{Did, HasEffect, stays, restrains, begins, closes, copies, forks, reaps, moves, cuts, writes_bytes, makes, links, unlinks, renames, opens, creates, ends-stays}
use Rattle.pv_laws_states.specs.States.{IsValid}
use Rattle.pv_laws_states.proofs.AttemptValues.{Leads}
use Rattle.pv_laws_states.proofs.CallOutcomes.{at_call, by_answer}
use Rattle.pv_laws_states.proofs.Processes.{last_process-update, process_at-same}
use Rattle.pv_laws_states.proofs.CollectedStates.{last-collect}
use Rattle.pv_laws_states.proofs.ValidEnds.{last-end}
use Rattle.pv_explore.specs.FirstMachines.{GaveNumber}

gave-effect : (s : State) (pid : ℕ) (me : Process) (call : Call) (after : State) (r : Reply) → HasEffect s pid me call after r → GaveNumber after s.last_process
gave-effect s pid me call _ _ (stays r waiting) = inl refl
gave-effect s pid me call _ _ (restrains q r no_more same parent table goes) = inl refl
gave-effect s pid me call _ _ (begins path program new) = inl refl
gave-effect s pid me call _ _ (closes d) = inl refl
gave-effect s pid me call _ _ (copies d x n found) = inl refl
gave-effect s pid me call _ _ (forks new) = inr (refl, ap is_some (process_at-same s (suc s.last_process) (child s pid me)))
gave-effect s pid me call _ _ (reaps k r gone goes) = inl refl
gave-effect s pid me call _ _ (moves k old new r found node mode named goes) = inl refl
gave-effect s pid me call _ _ (cuts f bytes has) = inl refl
gave-effect s pid me call _ _ (writes_bytes f bytes k old new n has found node mode named) = inl refl
gave-effect s pid me call _ _ (makes place p node change free bare) = inl refl
gave-effect s pid me call _ _ (links place p old n change from_old node fine) = inl refl
gave-effect s pid me call _ _ (unlinks place p change) = inl refl
gave-effect s pid me call _ _ (renames place p there q n from into node) = inl refl
gave-effect s pid me call _ _ (opens flags place n m flagged allowed found fine written) = inl refl
gave-effect s pid me call _ _ (creates flags place p m flagged allowed create named free fine) = inl refl

still-live : (s : State) (pid : ℕ) (f : Process → Process) (k : ℕ) → IsSome (process_at s k) → IsSome (process_at (update s pid f) k)
still-live s pid f k is = ⊎_elim (λ same. by same (process_at s pid) refl) (λ other. ap is_some (update-other s pid f k other) ∙ is) (cases_eq k pid)
  where
    by : k ≡ pid → (o : Option Process) → process_at s pid ≡ o → IsSome (process_at (update s pid f) k)
    by same None none = let gone : is_some (process_at s k) ≡ false = ap (λ n. is_some (process_at s n)) same ∙ ap is_some none in cc
    by same (Some p) at = ap (λ n. is_some (process_at (update s pid f) n)) same ∙ ap is_some (update-live s pid f p at)

gave-reported : (after : State) (pid : ℕ) (f : Process → Process) (known : ℕ) → GaveNumber after known → GaveNumber (collect (update after pid f)) known
gave-reported after pid f known (inl same) = inl (last-collect (update after pid f) ∙ last_process-update after pid f ∙ same)
gave-reported after pid f known (inr more) =
    inr (last-collect (update after pid f) ∙ last_process-update after pid f ∙ more.0, ap is_some (process_at-collect (update after pid f) (suc known)) ∙ still-live after pid f (suc known) more.1)

gave-attempt : (before s : State) (pid : ℕ) (me : Process) (call : Call) (a : Attempt Effect) → before.last_process ≡ s.last_process → Leads (Did s pid me call) a
    → GaveNumber (answer_by_attempt before s pid me a).after before.last_process
gave-attempt before s pid me call (done walks (after, returns n)) same did =
    gave-reported after pid (λ p. with_result p (pos n) 0) before.last_process (subst (GaveNumber after) (sym same) (gave-effect s pid me call after (returns n) did))
gave-attempt before s pid me call (done walks (after, returns_bytes n bytes)) same did =
    gave-reported after pid (λ p. with_front bytes (with_result p (pos n) 0)) before.last_process (subst (GaveNumber after) (sym same) (gave-effect s pid me call after (returns_bytes n bytes) did))
gave-attempt before s pid me call (done walks (after, ends status)) same did =
    let stayed : after ≡ s = ends-stays s pid me call after (ends status) status did refl in
    inl (last-collect (end_process after pid me status) ∙ last-end after pid me status ∙ ap (λ (t : State). t.last_process) stayed ∙ sym same)
gave-attempt before s pid me call (done walks (after, waits)) same did = inl refl
gave-attempt before s pid me call (refused walks errno cause) same did = inl (last_process-update s pid (λ p. with_result p (negsuc 0) (errno_number errno)) ∙ sym same)

gave-answer : (s : State) (pid : ℕ) (call : Call) → GaveNumber (answer program_of s pid call).after s.last_process
gave-answer s pid call =
    by_answer (λ a. GaveNumber a.after s.last_process) program_of s pid call
    (λ none. inl refl)
    (λ me at met. gave-attempt s (at_call s pid me) pid (at_next_line me) call (effect program_of (at_call s pid me) pid (at_next_line me) call) refl
    (does-effect program_of (at_call s pid me) pid (at_next_line me) call))
    (λ me p at missing lenient. gave-attempt s (at_call s pid me) pid (at_next_line me) call (refused 0 ENOSYS (ByPromise p)) refl tt)
    (λ me p at missing strict. inl (last-collect (end_process s pid (at_next_line me) 6) ∙ last-end s pid (at_next_line me) 6))

-- a step gives at most one number, to a live process
pub gave-step : (s : State) (pid : ℕ) → GaveNumber (step program_of s pid).after s.last_process
unfolding step
gave-step s pid = of (process_at s pid)
  where
    by : (p : Process) (n : Next) → GaveNumber (step_by program_of s pid p n).after s.last_process
    by p (inside q) = inl refl
    by p (calls_for call) = gave-answer s pid call

    of : (o : Option Process) → GaveNumber (step_of program_of s pid o).after s.last_process
    of None = inl refl
    of (Some p) = by p (next p)

pub gave-known : (s t : State) (pid known : ℕ) → known ≡ s.last_process → t ≡ (step program_of s pid).after → GaveNumber t known
gave-known s t pid known is after = subst (λ u. GaveNumber u known) (sym after) (subst (GaveNumber (step program_of s pid).after) (sym is) (gave-step s pid))

-- the next number is live, so it was given
pub number-next : (s : State) (known : ℕ) → IsValid s → GaveNumber s known → is_some (process_at s (known + 1)) ≡ true → known + 1 ≡ s.last_process
number-next s known whole (inl same) is =
    let free : find nat_cmp (suc s.last_process) s.processes ≡ None = (valid-in_order s whole).next_is_free in
    let gone : is_some (process_at s (known + 1)) ≡ false =
    ap (λ n. is_some (process_at s n)) (add-one known ∙ ap suc (sym same)) ∙ ap (λ o. is_some (live_process o)) free in
    cc
number-next s known whole (inr more) is = add-one known ∙ sym more.0

-- the next number is not live, so it was not given
pub number-same : (s : State) (known : ℕ) → GaveNumber s known → is_some (process_at s (known + 1)) ≡ false → known ≡ s.last_process
number-same s known (inl same) is = sym same
number-same s known (inr more) is = let there : is_some (process_at s (known + 1)) ≡ true = ap (λ n. is_some (process_at s n)) (add-one known) ∙ more.1 in cc
