-- The lines of all processes, one process at a time.
use Rattle.std.proofs.Common.{◌≡◌, ℕ, List, [], ◌++◌, flat_map, Option, None, ap, sym, ◌∙◌}
use Rattle.std.specs.FinMap.Entries.{find}
use Rattle.std.specs.Ordering.{nat_cmp}
use Rattle.std.proofs.lemmas.Grind.{flat_map-append}
use Rattle.pv_model.specs.Machine.{AnswerLine, answer_bytes, answer_line_bytes, locations, state_lines, Bytes, ProcessRecord, State}
use Rattle.pv_model.specs.Answers.ProcessRecord.{held_lines, location_lines}
use Rattle.pv_calls_state.specs.Counts.{processes_of}
use Rattle.pv_calls_state.specs.OfProcs.ProcessTable.{IsProcessTable, number_after}
use Rattle.pv_answers.specs.Holdings.{held_lines_of, held_by, location_of}
use Rattle.pv_answers.proofs.ProcessSequence.{Recorded, IsNextRecord, all-after, none-after, records_after}

abbrev pub locations_of : List Recorded → List AnswerLine
locations_of rs = flat_map (λ r. location_lines r.0 r.1) rs

abbrev pub lines_of_all : State → List Recorded → List AnswerLine
lines_of_all s rs = flat_map (λ r. location_lines r.0 r.1 ++ held_lines s r.0 r.1) rs

module _ (s : State) where
  abbrev all : List Recorded
  all = s.processes

  -- the lines after process 0 are all lines
  pub locations-all : IsProcessTable (processes_of s) → answer_bytes (locations_of (records_after 0 all)) ≡ answer_bytes (locations s)
  unfolding locations
  locations-all is = ap (λ rs. answer_bytes (locations_of rs)) (all-after s.last_process all is.numbers)

  pub lines-all : IsProcessTable (processes_of s) → answer_bytes (lines_of_all s (records_after 0 all)) ≡ answer_bytes (state_lines s)
  unfolding state_lines
  lines-all is = ap (λ rs. answer_bytes (lines_of_all s rs)) (all-after s.last_process all is.numbers)

  module _ (last pid : ℕ) (next : IsNextRecord last pid all) where
    -- the lines of the next process, and of those after it
    pub locations-next : answer_bytes (locations_of (records_after last all)) ≡ answer_bytes (location_of pid (find nat_cmp pid all)) ++ answer_bytes (locations_of (records_after pid all))
    locations-next =
        ap (λ rs. answer_bytes (locations_of rs)) next.first ∙ flat_map-append answer_line_bytes (location_lines pid next.entry) (locations_of (records_after pid all))
        ∙ ap (λ (o : Option ProcessRecord). answer_bytes (location_of pid o) ++ answer_bytes (locations_of (records_after pid all))) (sym next.found)

    -- the same with the remaining lines of the process
    pub lines-next : answer_bytes (lines_of_all s (records_after last all)) ≡ (answer_bytes (location_of pid (find nat_cmp pid all)) ++ answer_bytes (held_by s pid)) ++ answer_bytes (lines_of_all s (records_after pid all))
    lines-next =
        let rest = lines_of_all s (records_after pid all) in
        ap (λ rs. answer_bytes (lines_of_all s rs)) next.first ∙ flat_map-append answer_line_bytes (location_lines pid next.entry ++ held_lines s pid next.entry) rest
        ∙ ap (λ (bs : Bytes). bs ++ answer_bytes rest) (flat_map-append answer_line_bytes (location_lines pid next.entry) (held_lines s pid next.entry))
        ∙ ap (λ (o : Option ProcessRecord). (answer_bytes (location_of pid o) ++ answer_bytes (held_lines_of s pid o)) ++ answer_bytes rest) (sym next.found)

  -- no lines follow those of the last process
  pub locations-end : (last : ℕ) → number_after last all ≡ None → answer_bytes (locations_of (records_after last all)) ≡ []
  locations-end last none = ap (λ rs. answer_bytes (locations_of rs)) (none-after last all none)

  pub lines-end : (last : ℕ) → number_after last all ≡ None → answer_bytes (lines_of_all s (records_after last all)) ≡ []
  lines-end last none = ap (λ rs. answer_bytes (lines_of_all s rs)) (none-after last all none)
