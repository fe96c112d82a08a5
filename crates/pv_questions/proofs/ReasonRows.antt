-- The reasons of processes in the order of their numbers.
use Rattle.std.proofs.Common.{◌≡◌, ◌∙◌, ℕ, ◌++◌, List, [], ◌∷◌, append-nil, ap, sym, flat_map, Option, None, Some, refl}
use Rattle.pv_run.specs.OfAudit.Reasons.{present_reasons}
use Rattle.pv_model.specs.declared.verdict.Verdict.TheVariants.{Exposed}
use Rattle.pv_model.specs.declared.verdict.Why.{Why}
use Rattle.pv_model.specs.Machine.{Bytes, live_processes, Process, ProcessRecord, State, ended_record, live, live_process, process_at}
use Rattle.pv_policy.proofs.OfAnswers.ProcessSequence.{IsNextRecord, Recorded, records_after}
use Rattle.pv_questions.specs.Reasons.{all_reasons, reason_lines, reasons_by, reasons_of, verdict_at}

module _ (path : Option Bytes) (s : State) (f : ℕ) where
  -- the lines of a process, and of the processes of some records
  abbrev lines_of : Recorded → Bytes
  lines_of r = reasons_by path s f r.0 (live_process (Some r.1))

  abbrev pub rows : List Recorded → Bytes
  rows rs = flat_map lines_of rs

  rows-live : (rs : List Recorded) → rows rs ≡ flat_map (reasons_of path s f) (live_processes rs)
  rows-live [] = refl
  rows-live ((pid, live p) ∷ rs) = ap (λ bs. reasons_of path s f (pid, p) ++ bs) (rows-live rs)
  rows-live ((pid, ended_record parent status) ∷ rs) = rows-live rs

  pub rows-all : rows s.processes ≡ all_reasons path s f
  rows-all = rows-live s.processes

  -- the lines of the next process, and of those after it
  pub rows-next : (k n : ℕ) → IsNextRecord k n s.processes → rows (records_after k s.processes) ≡ reasons_by path s f n (process_at s n) ++ rows (records_after n s.processes)
  rows-next k n next =
      ap rows next.first ∙ ap (λ bs. bs ++ rows (records_after n s.processes)) (sym (ap (λ (o : Option ProcessRecord). reasons_by path s f n (live_process o)) next.found))

module _ (path : Option Bytes) (pid : ℕ) where
  -- the line of the next reason, and those of the reasons after it
  pub why-next : (why : Option Why) (whys : List (Option Why))
      → reason_lines path pid (present_reasons (why ∷ whys)) ≡ reason_lines path pid (present_reasons (why ∷ [])) ++ reason_lines path pid (present_reasons whys)
  why-next None whys = refl
  why-next (Some why) whys = ap (λ bs. bs ++ reason_lines path pid (present_reasons whys)) (sym (append-nil (verdict_at path (Exposed (record { pid = pid; why = why })))))
