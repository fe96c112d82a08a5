-- Steps in two states that agree in the part on which they depend.
use Rattle.std.proofs.Common.{◌≡◌, ◌≢◌, ℕ, true, cond, List, [], ◌∷◌, Option, None, Some, ap, sym, subst, ◌∙◌, ⊎_elim}
use Rattle.std.specs.FinMap.Entries.{find, is_sorted, below_all}
use Rattle.std.specs.Ordering.{nat_cmp, is_eq}
use Rattle.std.proofs.lemmas.Bool.{and_parts, cases_eq}
use Rattle.pv_model.specs.Machine.{Bytes, Program, Process, ProcessRecord, live, ended_record, State, process_at, Stepped, step}
use Rattle.pv_laws_states.specs.States.{IsPlaced, IsValid}
use Rattle.pv_laws_states.proofs.ReferenceMembers.{find_number_after, found-live}
use Rattle.pv_laws_states.proofs.Processes.{number-itself}
use Rattle.pv_laws_steps.specs.Beside.{with_change, become, StepsWithOtherProcess}
use Rattle.pv_laws_steps.proofs.StepsOfOthers.{become-keeps, fits-become, others-alter-nothing}
use Rattle.pv_laws_steps.specs.Seen.{seen, StepsWithOtherInsides}
use Rattle.pv_laws_steps.proofs.AgreeingStates.{live-alike, AreIn, seen-changed, inside-valid}
use Rattle.pv_laws_steps.proofs.ProcessInsides.{insides, inside-none, free-after, own-insides, ended-insides, live-insides}
use Rattle.pv_laws_steps.proofs.ValidInsides.{valid-changed}

-- two steps of a process have the same outcome and lines, and the next states differ only in insides, which are from
-- these processes
record StepsTo (pid : ℕ) (ts : List (ℕ × ProcessRecord)) (a b : Stepped) : Type 0 where
  outcome : b.outcome ≡ a.outcome
  lines : b.lines ≡ a.lines
  after : b.after ≡ insides pid ts a.after

module _ (program_of : Bytes → Option Program) (t : State) (pid : ℕ) (whole_t : IsValid t) where
  -- a state that takes the inside of a process of t is valid and agrees; the step from it
  record Takes (s : State) (k : ℕ) (q : Process) : Type 0 where
    whole : IsValid (with_change s k (become q))
    alike : seen pid (with_change s k (become q)) ≡ seen pid t
    steps : StepsWithOtherProcess k (become q) (step program_of s pid) (step program_of (with_change s k (become q)) pid)

  takes : (s : State) (k : ℕ) (q : Process) → IsValid s → seen pid s ≡ seen pid t → k ≢ pid → process_at t k ≡ Some q → Takes s k q
  takes s k q whole alike other at =
      let there = live-alike s t pid k q alike other at in
      let fit = fits-become s k there.process q whole there.at there.appears in
      let placed : IsPlaced s.tree s.files q = subst (λ x. IsPlaced x.tree x.files q) (sym alike) (whole_t.processes.placed k q at) in
      record {
        whole = valid-changed s k there.process q whole there.at there.appears (whole_t.processes.running k q at) placed;
        alike = seen-changed s pid k (become q) (become-keeps q) other fit ∙ alike;
        steps = others-alter-nothing program_of s pid k there.process q whole other there.at there.appears;
      }

  -- ---- the insides are taken one by one

  abbrev Along : List (ℕ × ProcessRecord) → Type 0
  Along ts = (s : State) → IsValid s → seen pid s ≡ seen pid t → StepsTo pid ts (step program_of s pid) (step program_of (insides pid ts s) pid)

  none-along : Along []
  none-along s whole alike =
      let none : (u : State) → insides pid [] u ≡ u = λ u. ap (λ ps. record u { processes = ps }) (inside-none pid u.processes) in
      record {
        outcome = ap (λ x. (step program_of x pid).outcome) (none s);
        lines = ap (λ x. (step program_of x pid).lines) (none s);
        after = ap (λ x. (step program_of x pid).after) (none s) ∙ sym (none (step program_of s pid).after);
      }

  -- a record that provides none
  passed-along : (g : ℕ × ProcessRecord) (ts : List (ℕ × ProcessRecord)) → ((u : State) → insides pid (g ∷ ts) u ≡ insides pid ts u) → Along ts → Along (g ∷ ts)
  passed-along g ts same rest s whole alike =
      let steps = rest s whole alike in
      record {
        outcome = ap (λ x. (step program_of x pid).outcome) (same s) ∙ steps.outcome;
        lines = ap (λ x. (step program_of x pid).lines) (same s) ∙ steps.lines;
        after = ap (λ x. (step program_of x pid).after) (same s) ∙ steps.after ∙ sym (same (step program_of s pid).after);
      }

  -- a record that provides its own
  taken-along : (k : ℕ) (q : Process) (ts : List (ℕ × ProcessRecord)) → find nat_cmp k ts ≡ None → k ≢ pid → process_at t k ≡ Some q → Along ts → Along ((k, live q) ∷ ts)
  taken-along k q ts free other at rest s whole alike =
      let now = takes s k q whole alike other at in
      let steps = rest (with_change s k (become q)) now.whole now.alike in
      let same : (u : State) → insides pid ((k, live q) ∷ ts) u ≡ insides pid ts (with_change u k (become q)) = live-insides pid k ts q free other in
      record {
        outcome = ap (λ x. (step program_of x pid).outcome) (same s) ∙ steps.outcome ∙ now.steps.outcome;
        lines = ap (λ x. (step program_of x pid).lines) (same s) ∙ steps.lines ∙ now.steps.lines;
        after = ap (λ x. (step program_of x pid).after) (same s) ∙ steps.after ∙ ap (insides pid ts) now.steps.after ∙ sym (same (step program_of s pid).after);
      }

  steps-along : (ts : List (ℕ × ProcessRecord)) → is_sorted nat_cmp ts ≡ true → AreIn pid t.processes ts → Along ts
  steps-along [] sorted are = none-along
  steps-along ((k, live q) ∷ ts) sorted are =
      let parts = and_parts (below_all nat_cmp k ts) (is_sorted nat_cmp ts) sorted in
      let rest : Along ts = steps-along ts parts.1 (λ j v is. are j v (find_number_after j v (k, live q) ts sorted is)) in
      ⊎_elim (λ is. passed-along (k, live q) ts (own-insides pid k ts (live q) is) rest)
      (λ other. taken-along k q ts (free-after k ts parts.0) other (found-live t k q (are k (live q) (ap (λ o. cond (is_eq o) (Some (live q)) (find nat_cmp k ts)) (number-itself k)))) rest) (cases_eq k pid)
  steps-along ((k, ended_record parent status) ∷ ts) sorted are =
      let parts = and_parts (below_all nat_cmp k ts) (is_sorted nat_cmp ts) sorted in
      passed-along (k, ended_record parent status) ts (ended-insides pid k ts parent status (free-after k ts parts.0))
      (steps-along ts parts.1 (λ j v is. are j v (find_number_after j v (k, ended_record parent status) ts sorted is)))

pub steps-by_seen : (program_of : Bytes → Option Program) (s t : State) (pid : ℕ) → IsValid s → IsValid t → seen pid s ≡ seen pid t
    → StepsWithOtherInsides pid t (step program_of s pid) (step program_of t pid)
steps-by_seen program_of s t pid whole whole_t alike =
    let steps = steps-along program_of t pid whole_t t.processes whole_t.processes.ascending (λ k v is. is) s whole alike in
    let is : insides pid t.processes s ≡ t = inside-valid pid s t whole_t.processes.ascending alike in
    record {
      outcome = ap (λ x. (step program_of x pid).outcome) (sym is) ∙ steps.outcome;
      lines = ap (λ x. (step program_of x pid).lines) (sym is) ∙ steps.lines;
      after = ap (λ x. (step program_of x pid).after) (sym is) ∙ steps.after;
    }
