-- The lines of `explain` that are not lines of the run.
use Rattle.std.proofs.Common.{◌≡◌, ℕ, ◌+◌, List, [], ◌∷◌, ◌++◌, map, flat_map, codes, Option, None, Some, refl, ap, sym, ◌∙◌}
use Rattle.std.specs.Prelude.{not}
use Rattle.std.proofs.lemmas.List.{map-append}
use Rattle.std.proofs.lemmas.List.Elements.{filter-append}
use Rattle.pv_model.specs.declared.call.Call.{Call}
use Rattle.pv_model.specs.Machine.{Answered, answer, explained_step, settings_next, AnswerLine, answer_line, of_trace, answer_bytes, locations, Settings, settings_of, Bytes, Next, inside, calls_for, next, Program, Process, ProcessRecord, live, ended_record, State, process_at, step, step_of, step_by, run, Word, call_word, nami_word, pldg_word, unvl_word, gio_word, ret_word, Line, line, call_lines, trace_bytes}
use Rattle.pv_model.specs.Answers.Explain.{unveil_reasons, remarks, with_remarks, explained_of, explained_next, set_text, explain_from, explain_lines}
use Rattle.pv_model.specs.Answers.ProcessRecord.{location_lines}
use Rattle.pv_model.specs.Step.{run_text}
use Rattle.pv_model.specs.Trace.{psig_word, wait_word, gone_word, line_bytes}
use Rattle.pv_laws_answers.specs.Explained.{only_explains, without_explaining}

-- the remaining lines of a concatenation
left-append : (ls ms : List AnswerLine) → without_explaining (ls ++ ms) ≡ without_explaining ls ++ without_explaining ms
left-append ls ms = filter-append (λ l. not (only_explains l)) ls ms

-- a line of a trace remains
stays : (pid : ℕ) (w : Word) (rest : List AnswerLine) → without_explaining (of_trace (line pid w) ∷ rest) ≡ of_trace (line pid w) ∷ without_explaining rest
stays pid (call_word call) rest = refl
stays pid (nami_word path) rest = refl
stays pid (pldg_word call promise verdict) rest = refl
stays pid (unvl_word verdict) rest = refl
stays pid (gio_word witness bytes) rest = refl
stays pid (ret_word call returned) rest = refl
stays pid psig_word rest = refl
stays pid wait_word rest = refl
stays pid gone_word rest = refl

reasons-go : (pid : ℕ) (texts : List Bytes) → without_explaining (map (answer_line pid (codes "WHY")) texts) ≡ []
reasons-go pid [] = refl
reasons-go pid (text ∷ texts) = reasons-go pid texts

module _ (s : State) (pid : ℕ) (p : Process) (source : ℕ → Bytes) (call : Call) (a : Answered) where
  -- its explanations do not remain
  remarks-go : (w : Word) → without_explaining (remarks s pid p source call a w) ≡ []
  remarks-go (pldg_word by promise verdict) = refl
  remarks-go (unvl_word verdict) = reasons-go pid (unveil_reasons s p source call a.walks verdict)
  remarks-go (gio_word witness []) = refl
  remarks-go (gio_word witness (b ∷ bs)) = refl
  remarks-go (call_word by) = refl
  remarks-go (nami_word path) = refl
  remarks-go (ret_word by returned) = refl
  remarks-go psig_word = refl
  remarks-go wait_word = refl
  remarks-go gone_word = refl

  remarked : (ls : List Line) → without_explaining (flat_map (with_remarks s pid p source call a) ls) ≡ map of_trace ls
  remarked [] = refl
  remarked (l ∷ ls) =
      stays l.pid l.word (remarks s pid p source call a l.word ++ flat_map (with_remarks s pid p source call a) ls)
      ∙ ap (λ rest. of_trace l ∷ rest)
      (left-append (remarks s pid p source call a l.word) (flat_map (with_remarks s pid p source call a) ls)
      ∙ ap (λ rest. rest ++ without_explaining (flat_map (with_remarks s pid p source call a) ls)) (remarks-go l.word)
      ∙ remarked ls)

location-goes : (pid : ℕ) (r : ProcessRecord) → without_explaining (location_lines pid r) ≡ []
location-goes pid (live p) = refl
location-goes pid (ended_record parent status) = refl

locations-go : (s : State) → without_explaining (locations s) ≡ []
unfolding locations
locations-go s = by s.processes
  where
    by : (rs : List (ℕ × ProcessRecord)) → without_explaining (flat_map (λ r. location_lines r.0 r.1) rs) ≡ []
    by [] = refl
    by (r ∷ rs) =
        left-append (location_lines r.0 r.1) (flat_map (λ r. location_lines r.0 r.1) rs)
        ∙ ap (λ ls. ls ++ without_explaining (flat_map (λ r. location_lines r.0 r.1) rs)) (location-goes r.0 r.1)
        ∙ by rs

module _ (program_of : Bytes → Option Program) where
  explained-lines : (source : ℕ → Bytes) (s : State) (pid : ℕ) → without_explaining (explained_step program_of source s pid) ≡ map of_trace (step program_of s pid).lines
  unfolding explained_step step
  explained-lines source s pid = of (process_at s pid)
    where
      by : (p : Process) (n : Next) → without_explaining (explained_next program_of source s pid p n) ≡ map of_trace (step_by program_of s pid p n).lines
      by p (inside q) = refl
      by p (calls_for call) = remarked s pid p source call (answer program_of s pid call) (call_lines pid p call (answer program_of s pid call))

      of : (o : Option Process) → without_explaining (explained_of program_of source s pid o) ≡ map of_trace (step_of program_of s pid o).lines
      of None = refl
      of (Some p) = by p (next p)

  from : (k : ℕ) (all : Settings) (pids : List ℕ) (s : State) → without_explaining (explain_from program_of k all pids s) ≡ map of_trace (run program_of pids s).lines
  from k all [] s = locations-go s
  from k all (pid ∷ pids) s =
      let source = set_text program_of (settings_of all pid) in
      let later = explain_from program_of (k + 1) (settings_next program_of s pid all) pids (step program_of s pid).after in
      left-append (explained_step program_of source s pid) later
      ∙ ap (λ ls. ls ++ without_explaining later) (explained-lines source s pid)
      ∙ ap (λ ls. map of_trace (step program_of s pid).lines ++ ls) (from (k + 1) (settings_next program_of s pid all) pids (step program_of s pid).after)
      ∙ sym (map-append of_trace (step program_of s pid).lines (run program_of pids (step program_of s pid).after).lines)

  pub explained-run : (pids : List ℕ) (s : State) → without_explaining (explain_lines program_of pids s) ≡ map of_trace (run program_of pids s).lines
  unfolding explain_lines
  explained-run pids s = from 1 [] pids s

  pub explained-text : (pids : List ℕ) (s : State) → answer_bytes (without_explaining (explain_lines program_of pids s)) ≡ run_text program_of pids s
  explained-text pids s = ap answer_bytes (explained-run pids s) ∙ bytes (run program_of pids s).lines
    where
      bytes : (ls : List Line) → answer_bytes (map of_trace ls) ≡ trace_bytes ls
      bytes [] = refl
      bytes (l ∷ ls) = ap (λ rest. line_bytes l ++ rest) (bytes ls)
