-- The numbers of the live processes, from one to the next.
use Rattle.std.proofs.Common.{◌≡◌, ◌∙◌, ℕ, ◌++◌, List, [], ◌∷◌, ap, sym, flat_map, map, Option, Some, refl}
use Rattle.pv_model.specs.Machine.{live_processes, ProcessRecord, State, ended_record, live, live_process, process_at}
use Rattle.pv_model_questions.specs.Notes.{live_numbers}
use Rattle.pv_policy.proofs.OfAnswers.ProcessSequence.{IsNextRecord, Recorded, records_after}
use Rattle.pv_questions.specs.Answers.{number_if_live}

-- the numbers of the live processes of some records
abbrev pub numbers_in : List Recorded → List ℕ
numbers_in rs = flat_map (λ r. number_if_live r.0 (live_process (Some r.1))) rs

numbers-live : (rs : List Recorded) → numbers_in rs ≡ map (λ p. p.0) (live_processes rs)
numbers-live [] = refl
numbers-live ((pid, live p) ∷ rs) = ap (λ ns. pid ∷ ns) (numbers-live rs)
numbers-live ((pid, ended_record parent status) ∷ rs) = numbers-live rs

pub numbers-all : (s : State) → numbers_in s.processes ≡ live_numbers s
numbers-all s = numbers-live s.processes

-- the number of the next process, if it is live, and those after it
pub numbers-next : (s : State) (k n : ℕ) → IsNextRecord k n s.processes
    → numbers_in (records_after k s.processes) ≡ number_if_live n (process_at s n) ++ numbers_in (records_after n s.processes)
numbers-next s k n next =
    ap numbers_in next.first
    ∙ ap (λ ns. ns ++ numbers_in (records_after n s.processes)) (sym (ap (λ (o : Option ProcessRecord). number_if_live n (live_process o)) next.found))
