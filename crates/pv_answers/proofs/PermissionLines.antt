-- The lines of a process's permissions, part by part.
use Rattle.std.proofs.Common.{◌≡◌, ℕ, [], ◌∷◌, ◌++◌, ◌∙◌, map, flat_map, codes, List, Option, None, Some, refl, ap, ap₂, sym}
use Rattle.std.specs.Prelude.{option_map, unwrap_or}
use Rattle.std.proofs.lemmas.Grind.{flat_map-append}
use Rattle.std.proofs.lemmas.List.Folds.{flat_map-map}
use Rattle.pv_model.specs.Machine.{AnswerLine, answer_bytes, answer_line, answer_line_bytes, ListedName, reach_lines, Bytes, entries_of_table, live_processes, Process, ProcessRecord, live, ended_record, State, live_process, process_at, text_line}
use Rattle.pv_model.specs.Answers.Lines.{counted}
use Rattle.pv_model.specs.Answers.ProcessRecord.{open_descriptors}
use Rattle.pv_model.specs.Answers.Reach.{descriptor_texts, directory_texts, entry_texts, listed_names, name_text, reach_of, reach_texts, reached_permissions}
use Rattle.pv_calls_state.specs.OfProcs.declared.record.ProcessRecord.{ProcessRecord as Owned}
use Rattle.pv_calls_state.specs.OfProcs.Parts.{record_of}
use Rattle.pv_answers.specs.declared.reach.reacher.Reacher.{Reacher}
use Rattle.pv_answers.specs.Reaching.{absent_lines, directory_lines, listed_lines, may_line, may_lines, owner, process_lines, reacher_process, reached_by, reacher_state, unnamed_lines}
use Rattle.pv_answers.proofs.ProcessSequence.{Recorded, IsNextRecord, records_after}

module _ (x : Reacher) where
  line-is : (text : Bytes) → answer_line_bytes (answer_line x.pid (codes "MAY") text) ≡ may_line x text
  unfolding text_line
  line-is text = refl

  lines-are : (texts : List Bytes) → answer_bytes (map (answer_line x.pid (codes "MAY")) texts) ≡ may_lines x texts
  lines-are [] = refl
  lines-are (text ∷ texts) = ap₂ (λ (a b : Bytes). a ++ b) (line-is text) (lines-are texts)

  names-are : (ls : List ListedName) → may_lines x (map (name_text (reacher_state x) (reacher_process x)) ls) ≡ listed_lines x ls
  names-are ls = flat_map-map (may_line x) (name_text (reacher_state x) (reacher_process x)) ls

  in-parts : (a b c d : List Bytes) → may_lines x (a ++ b ++ c ++ d) ≡ may_lines x a ++ may_lines x b ++ may_lines x c ++ may_lines x d
  in-parts a b c d =
      flat_map-append (may_line x) (a ++ b ++ c) d
      ∙ ap (λ bs. bs ++ may_lines x d) (flat_map-append (may_line x) (a ++ b) c ∙ ap (λ bs. bs ++ may_lines x c) (flat_map-append (may_line x) a b))

  all-are : process_lines x ≡ answer_bytes (reach_of (reacher_state x) x.pid (reacher_process x))
  unfolding reach_texts
  all-are =
      let s = reacher_state x in
      let p = reacher_process x in
      let names = map (name_text s p) (listed_names s.tree) in
      sym (lines-are (reach_texts s p)
      ∙ in-parts names (flat_map (entry_texts s p) (counted (entries_of_table p.table))) (directory_texts s p) (flat_map (descriptor_texts s p) (open_descriptors s p))
      ∙ ap (λ bs. bs ++ absent_lines x ++ directory_lines x ++ unnamed_lines x) (names-are (listed_names s.tree)))

  -- the lines depend only on the record of the process
  by-owner : (p : Process) → reach_of (reacher_state x) x.pid p ≡ reach_of (reacher_state x) x.pid (owner (record_of p))
  unfolding reach_texts reached_permissions
  by-owner p = refl

  process-is : (p : Process) → process_at (reacher_state x) x.pid ≡ Some p → record_of p ≡ x.owned.now → process_lines x ≡ answer_bytes (reached_by (reacher_state x) x.pid)
  process-is p lives owns =
      all-are ∙ ap (λ (r : Owned). answer_bytes (reach_of (reacher_state x) x.pid (owner r))) (sym owns) ∙ ap answer_bytes (sym (by-owner p))
      ∙ ap (λ (o : Option Process). answer_bytes (unwrap_or (option_map (reach_of (reacher_state x) x.pid) o) [])) (sym lives)

  -- the same for the record that the code finds
  pub record-is : option_map record_of (process_at (reacher_state x) x.pid) ≡ Some x.owned.now → process_lines x ≡ answer_bytes (reached_by (reacher_state x) x.pid)
  record-is owns = by (process_at (reacher_state x) x.pid) refl owns
    where
      by : (o : Option Process) → process_at (reacher_state x) x.pid ≡ o → option_map record_of o ≡ Some x.owned.now → process_lines x ≡ answer_bytes (reached_by (reacher_state x) x.pid)
      by None lives none = cc none
      by (Some p) lives same = let one : record_of p ≡ x.owned.now = cc same in process-is p lives one

-- ---- one process at a time

module _ (s : State) where
  -- the lines of a live process, or none for an ended one
  abbrev lines_of : Recorded → List AnswerLine
  lines_of (pid, live p) = reach_of s pid p
  lines_of (pid, ended_record parent status) = []

  abbrev pub rows : List Recorded → Bytes
  rows rs = flat_map (λ r. answer_bytes (lines_of r)) rs

  rows-live : (rs : List Recorded) → answer_bytes (flat_map (λ (p : ℕ × Process). reach_of s p.0 p.1) (live_processes rs)) ≡ rows rs
  rows-live [] = refl
  rows-live ((pid, live p) ∷ rs) =
      flat_map-append answer_line_bytes (reach_of s pid p) (flat_map (λ (q : ℕ × Process). reach_of s q.0 q.1) (live_processes rs))
      ∙ ap (λ bs. answer_bytes (reach_of s pid p) ++ bs) (rows-live rs)
  rows-live ((pid, ended_record parent status) ∷ rs) = rows-live rs

  pub rows-all : rows s.processes ≡ answer_bytes (reach_lines s)
  unfolding reach_lines
  rows-all = sym (rows-live s.processes)

  -- the lines of the next process, and of those after it
  pub rows-next : (k n : ℕ) → IsNextRecord k n s.processes → rows (records_after k s.processes) ≡ answer_bytes (reached_by s n) ++ rows (records_after n s.processes)
  rows-next k n next =
      ap rows next.first ∙ ap (λ bs. bs ++ rows (records_after n s.processes)) (of_found next.entry ∙ sym (ap (λ (o : Option ProcessRecord). answer_bytes (unwrap_or (option_map (reach_of s n) (live_process o)) [])) next.found))
    where
      of_found : (r : ProcessRecord) → answer_bytes (lines_of (n, r)) ≡ answer_bytes (unwrap_or (option_map (reach_of s n) (live_process (Some r))) [])
      of_found (live p) = refl
      of_found (ended_record parent status) = refl
