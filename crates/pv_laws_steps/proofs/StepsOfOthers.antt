-- Steps, in two states that differ inside another process.
use Rattle.std.proofs.Common.{◌≡◌, ◌≢◌, ℕ, suc, true, cond, List, [], ◌∷◌, Option, Some, refl, ap, sym, subst, ◌∙◌}
use Rattle.std.proofs.lemmas.Bool.{and_parts}
use Rattle.std.specs.FinMap.Entries.{find, put, is_sorted, below_all}
use Rattle.std.specs.Ordering.{nat_cmp, is_eq}
use Rattle.pv_model.specs.Machine.{at_next_line, Bytes, child, with_number, least_free, Program, Process, ProcessRecord, live, ended_record, State, process_at, step}
use Rattle.pv_laws_states.specs.States.{IsValid}
use Rattle.pv_laws_states.proofs.ValidBySteps.{IsGoodNext, good-next}
use Rattle.pv_laws_states.proofs.ReferenceMembers.{find_number_after, found-live}
use Rattle.pv_laws_states.proofs.CallOutcomes.{at_call}
use Rattle.pv_laws_states.proofs.Processes.{number-itself, process_at-same}
use Rattle.pv_laws_states.proofs.ValidReplies.{valid-at_call}
use Rattle.pv_laws_access.proofs.ProcessesAfterEnds.{valid-in_order, not_next}
use Rattle.pv_laws_steps.specs.Beside.{HasSameReferences, with_change, become, StepsWithOtherProcess}
use Rattle.pv_laws_steps.proofs.ChangedPairs.{SteppedPair, IsApart, step-in_both}
use Rattle.pv_laws_steps.proofs.CallsOfOthers.{changes, AreFit, room-changed}
use Rattle.pv_laws_steps.proofs.ChangedProcess.{KeepsParent, Fits, put-other, collect-changed, fits-put, fits-filter, process-changed, with-changed, end-changed, fits-end}
use Rattle.pv_laws_steps.proofs.RoomCalls.{CallsFit, calls-fit}

-- in a sorted table, the change applies to the process that is found
pub fits-found : (k : ℕ) (f : Process → Process) (es : List (ℕ × ProcessRecord)) → is_sorted nat_cmp es ≡ true → ((x : Process) → find nat_cmp k es ≡ Some (live x) → HasSameReferences x (f x)) → Fits k f es
fits-found k f [] sorted alike = tt
fits-found k f ((j, live p) ∷ es) sorted alike = (
  λ here. alike p (ap (λ n. cond (is_eq (nat_cmp k n)) (Some (live p)) (find nat_cmp k es)) here ∙ ap (λ o. cond (is_eq o) (Some (live p)) (find nat_cmp k es)) (number-itself k)),
  fits-found k f es (and_parts (below_all nat_cmp j es) (is_sorted nat_cmp es) sorted).1 (λ x found. alike x (find_number_after k (live x) (j, live p) es sorted found)),
)
fits-found k f ((j, ended_record parent status) ∷ es) sorted alike =
    fits-found k f es (and_parts (below_all nat_cmp j es) (is_sorted nat_cmp es) sorted).1 (λ x found. alike x (find_number_after k (live x) (j, ended_record parent status) es sorted found))

-- a change of another process leaves the one that makes the step unchanged
changes-apart : (k : ℕ) (f : Process → Process) → KeepsParent f → (pid : ℕ) → pid ≢ k → IsApart (changes k f) (AreFit k f) pid
changes-apart k f keeps pid other = record {
  there = λ x. process-changed k f x pid other;
  put = λ x p. with-changed k f x pid p other;
  fit_put = λ x p fit. fits-put k f pid (live p) x.processes (λ q is here. absurd (other here)) fit;
  ended = λ x me status. end-changed k f keeps x pid me status other;
  fit_ended = λ x me status fit. fits-end k f keeps x pid me status fit;
  collects = λ x fit. collect-changed k f x fit;
}

-- if the change applies to a state, it applies to the states after calls
fit-calls : (k : ℕ) (f : Process → Process) (s : State) (pid : ℕ) (me : Process) → pid ≢ k → suc s.last_process ≢ k → Fits k f s.processes → CallsFit k f s pid me (AreFit k f)
fit-calls k f s pid me other next_other fit =
    let own : (q : Process) → Fits k f (put nat_cmp pid (live q) s.processes) = λ q. fits-put k f pid (live q) s.processes (λ p is here. absurd (other here)) fit in
    record {
      leave = record {
        left = λ t fs. fit;
        own = λ t fs q. own q;
        forked = fits-put k f (suc s.last_process) (live (child s pid me)) s.processes (λ p is here. absurd (next_other here)) fit;
        reaped = λ test. fits-filter k f (λ r. test r.0) s.processes fit;
      };
      rooms = record {
        room = λ t fs n goes. room-changed k f _ _ n (record { same = refl; fit = fit });
        opened = λ t fs file close_on_exec n goes.
            let q : Process = record me { descriptors = with_number me.descriptors (least_free me.descriptors) (record { file = file; close_on_exec = close_on_exec }) } in
            room-changed k f _ _ n (record { same = ap (λ ps. record s { tree = t; files = fs; processes = ps }) (put-other k f pid (live q) s.processes other); fit = own q });
        smaller = λ t n less. room-changed k f _ _ n (record { same = refl; fit = fit });
      };
    }

step-changed : (k : ℕ) (f : Process → Process) → KeepsParent f → (pid : ℕ) → pid ≢ k → (program_of : Bytes → Option Program) (s : State) → IsValid s → Fits k f s.processes → suc s.last_process ≢ k
    → SteppedPair (changes k f) (step program_of s pid) (step program_of (with_change s k f) pid)
step-changed k f keeps pid other program_of s whole fit next_other =
    let apart = changes-apart k f keeps pid other in
    step-in_both (changes k f) (AreFit k f) pid apart program_of s fit (λ p call at comes.
    let now : Process = at_next_line p in
    calls-fit k f keeps (at_call s pid p) pid now (valid-at_call s pid p whole at) (process_at-same s pid now) other next_other (AreFit k f)
    (fit-calls k f (at_call s pid p) pid now other next_other (apart.fit_put s now fit)) program_of call (subst (IsGoodNext p) comes (good-next p (whole.processes.running pid p at))))

pub become-keeps : (q : Process) → KeepsParent (become q)
become-keeps q = record { same = λ p. refl; whoever = λ p n. refl }

pub fits-become : (s : State) (k : ℕ) (p q : Process) → IsValid s → process_at s k ≡ Some p → HasSameReferences p q → Fits k (become q) s.processes
fits-become s k p q whole at alike =
    fits-found k (become q) s.processes whole.processes.ascending (λ x found.
    let both : Some x ≡ Some p = sym (found-live s k x found) ∙ at in
    let same : x ≡ p = cc both in
    subst (λ (y : Process). HasSameReferences y (become q y)) (sym same) (record { directory = alike.directory; descriptors = alike.descriptors; held = alike.held }))

pub others-alter-nothing : (program_of : Bytes → Option Program) (s : State) (pid k : ℕ) (p q : Process) → IsValid s → k ≢ pid → process_at s k ≡ Some p → HasSameReferences p q
    → StepsWithOtherProcess k (become q) (step program_of s pid) (step program_of (with_change s k (become q)) pid)
others-alter-nothing program_of s pid k p q whole apart at alike =
    let beside = step-changed k (become q) (become-keeps q) pid (λ same. apart (sym same)) program_of s whole (fits-become s k p q whole at alike) (λ same. not_next s (valid-in_order s whole) k p at (sym same)) in
    record { outcome = beside.outcome; lines = beside.lines; after = beside.after }
