-- The lines of several steps, and of the steps of an explained run.
use Rattle.std.proofs.Common.{◌≡◌, ◌<◌, ◌+◌, ◌^◌, ◌∙◌, ℕ, List, [], ◌∷◌, ◌++◌, length, Option, None, Some, Ok, Err, refl, ap, ap₂, sym, subst, ⊎_elim, append_assoc, arith}
use Rattle.std.proofs.lemmas.Grind.{flat_map-append}
use Rattle.std.proofs.lemmas.List.{append-nil}
use Rattle.pv_model.specs.Machine.{explained_step, settings_next, AnswerLine, answer_bytes, answer_line_bytes, locations, Settings, settings_of, Bytes, program_of, Process, State, process_at, run, step}
use Rattle.pv_model.specs.Answers.Explain.{explained_of, explain_from, explain_lines, set_text, step_line}
use Rattle.pv_laws_states.specs.States.{IsValid}
use Rattle.pv_laws_states.proofs.ValidBySteps.{step-keeps_valid}
use Rattle.pv_laws_access.proofs.ProcessesAfterEnds.{valid-in_order}
use Rattle.pv_step_lines.proofs.OfLawsRuns.ProgramRanges.{program_of-encodes}
use Rattle.pv_streams.specs.declared.stop.Stop.{Stop}
use Rattle.pv_step_lines.specs.OfSession.Observing.{Observed, AreMade, AreStopped}
use Rattle.pv_step_lines.proofs.OfSession.StoppedRuns.{stops-after, stops-before}
use Rattle.pv_streams.specs.Sinks.{FailsBy, Writes, WritesOr}
use Rattle.pv_streams.proofs.WriterContracts.{or_as, or_both, or_longer, writes_as, writes_both, writes_none}
use Rattle.pv_model.specs.declared.stream.Sink.{Ghosts as Writing}
use Rattle.pv_model_questions.specs.ExplainMore.{explain_adding, source_in}
use Rattle.pv_explain.specs.declared.explain.Explaining.{Explaining}
use Rattle.pv_explain.specs.declared.extra.Extra.{Extra}
use Rattle.pv_explain.specs.Errors.{AddsNothingElse, added_by, explained_lines, no_lines}
use Rattle.pv_explain.specs.Explaining.{ExplainsStep, StopsExplaining}
use Rattle.pv_explain.specs.Keeping.{Agree}
use Rattle.pv_explain.specs.Steps.{explained_step_lines, steps_lines, steps_text, StopsExplained}
use Rattle.pv_explain.proofs.AddedLines.{gone-adds}
use Rattle.pv_explain.proofs.EntryOrigins.{next-same}

-- without added lines, the lines are those of the model
explained-adding-none : (pids : List ℕ) (k : ℕ) (a : Settings) (s : State) → explain_adding no_lines k a pids s ≡ explain_from program_of k a pids s
explained-adding-none [] k a s = refl
explained-adding-none (x ∷ xs) k a s =
    ap₂ (λ (ls others : List AnswerLine). (step_line program_of k s x ∷ ls) ++ others)
    (append-nil (explained_step program_of (set_text program_of (settings_of a x)) s x))
    (explained-adding-none xs (k + 1) (settings_next program_of s x a) (step program_of s x).after)

pub adds-nothing-else : AddsNothingElse
unfolding explain_lines explained_lines
adds-nothing-else pids s = (explained-adding-none pids 1 [] s, explained-adding-none pids 1 [] s)

module _ (extra : Extra) where
  -- ---- equal records of live processes give equal lines

  module _ (s : State) (pid : ℕ) (a b : Settings) (same : Agree s a b) where
    step-same : (k : ℕ) → explained_step_lines extra k a s pid ≡ explained_step_lines extra k b s pid
    unfolding explained_step
    step-same k = by (process_at s pid) refl
      where
        by : (o : Option Process) → process_at s pid ≡ o → explained_step_lines extra k a s pid ≡ explained_step_lines extra k b s pid
        by None none =
            ap₂ (λ (ls others : List AnswerLine). step_line program_of k s pid ∷ ls ++ others)
            (ap (explained_of program_of (source_in a pid) s pid) none ∙ sym (ap (explained_of program_of (source_in b pid) s pid) none))
            (gone-adds extra (source_in a pid) s pid none ∙ sym (gone-adds extra (source_in b pid) s pid none))
        by (Some p) at =
            ap (λ mine. step_line program_of k s pid ∷ explained_step program_of (set_text program_of mine) s pid ++ added_by extra (set_text program_of mine) s pid)
            (same pid (p, at))

  valid-after : (s : State) (pid : ℕ) → IsValid s → IsValid (step program_of s pid).after
  valid-after s pid whole = step-keeps_valid program_of program_of-encodes s pid whole

  steps-same : (pids : List ℕ) (k : ℕ) (s : State) (a b : Settings) → IsValid s → Agree s a b → steps_lines extra k a pids s ≡ steps_lines extra k b pids s
  steps-same [] k s a b whole same = refl
  steps-same (pid ∷ pids) k s a b whole same =
      ap₂ (λ (xs ys : List AnswerLine). xs ++ ys) (step-same s pid a b same k)
      (steps-same pids (k + 1) (step program_of s pid).after (settings_next program_of s pid a) (settings_next program_of s pid b) (valid-after s pid whole) (next-same s pid a b (valid-in_order s whole) same))

  -- the lines of steps, followed by the locations of processes
  explain-is : (pids : List ℕ) (k : ℕ) (a : Settings) (s : State) → explain_adding (added_by extra) k a pids s ≡ steps_lines extra k a pids s ++ locations (run program_of pids s).final
  explain-is [] k a s = refl
  explain-is (x ∷ xs) k a s =
      ap (λ (ls : List AnswerLine). explained_step_lines extra k a s x ++ ls) (explain-is xs (k + 1) (settings_next program_of s x a) (step program_of s x).after)
      ∙ sym (append_assoc (explained_step_lines extra k a s x) (steps_lines extra (k + 1) (settings_next program_of s x a) xs (step program_of s x).after) _)

  lines-is : (pids : List ℕ) (s : State) → explained_lines extra pids s ≡ steps_lines extra 1 [] pids s ++ locations (run program_of pids s).final
  unfolding explained_lines
  lines-is pids s = explain-is pids 1 [] s

  answers-append : (xs ys : List AnswerLine) → answer_bytes (xs ++ ys) ≡ answer_bytes xs ++ answer_bytes ys
  answers-append xs ys = flat_map-append answer_line_bytes xs ys

  -- the text of an explained run
  pub lines-text : (pids : List ℕ) (s : State) → answer_bytes (steps_lines extra 1 [] pids s) ++ answer_bytes (locations (run program_of pids s).final) ≡ answer_bytes (explained_lines extra pids s)
  lines-text pids s = sym (ap answer_bytes (lines-is pids s) ∙ answers-append (steps_lines extra 1 [] pids s) (locations (run program_of pids s).final))

-- ---- the steps of an explained run

-- the text of steps from here
abbrev text_from : {W : Type 0} → Observed Explaining W → List ℕ → State → Bytes
text_from x = steps_text x.observer.extra x.observer.number x.observer.explainer

module _ {W : Type 0} (sink : Writing W) where
  -- a step, and the steps after it
  module _ (pid : ℕ) (x y : Observed Explaining W) (made : ExplainsStep sink pid x y) (fits : x.observer.number + 1 < 2 ^ 64) where
    abbrev first : List AnswerLine
    first = explained_step_lines x.observer.extra x.observer.number x.observer.explainer x.state pid

    abbrev next : Settings
    next = settings_next program_of x.state pid x.observer.explainer

    rest-same : (pids : List ℕ)
        → steps_lines y.observer.extra y.observer.number y.observer.explainer pids y.state ≡ steps_lines x.observer.extra (x.observer.number + 1) next pids (step program_of x.state pid).after
    rest-same pids =
        let number : y.observer.number ≡ x.observer.number + 1 = omega (arith, made.number) in
        let whole : IsValid y.state = subst IsValid (sym made.after) (valid-after x.observer.extra x.state pid made.whole) in
        ap (λ e. steps_lines e y.observer.number y.observer.explainer pids y.state) made.same
        ∙ ap (λ n. steps_lines x.observer.extra n y.observer.explainer pids y.state) number
        ∙ steps-same x.observer.extra pids (x.observer.number + 1) y.state y.observer.explainer next whole made.keeps
        ∙ ap (λ t. steps_lines x.observer.extra (x.observer.number + 1) next pids t) made.after

    text-both : (pids : List ℕ) → answer_bytes first ++ text_from y pids y.state ≡ text_from x (pid ∷ pids) x.state
    text-both pids = sym (answers-append x.observer.extra first _) ∙ ap (λ (ls : List AnswerLine). answer_bytes (first ++ ls)) (rest-same pids)

  -- the text of the steps is written
  pub explained : (pids : List ℕ) (x z : Observed Explaining W) → AreMade (ExplainsStep sink) pids x z → x.observer.number + length pids < 2 ^ 64
      → Writes {T = Unit {0}} {E = Unit {0}} sink (text_from x pids x.state) x.out z.out (Ok tt)
  explained [] x z same fits = subst (λ (t : Observed Explaining W). Writes {T = Unit {0}} {E = Unit {0}} sink [] x.out t.out (Ok tt)) (sym same) writes_none
  explained (pid ∷ pids) x z made fits =
      let y : Observed Explaining W = made.0 in
      writes_as (text-both pid x y made.1 (omega arith) pids) (writes_both made.1.written (explained pids y z made.2 (omega (arith, made.1.number))))

  module _ (stop : Stop) where
    -- if a step could not be written, a prefix of the text of all steps is written
    pub explain-begun : (pids : List ℕ) (x z : Observed Explaining W) → AreStopped (ExplainsStep sink) (StopsExplaining sink stop) pids x z → x.observer.number + length pids < 2 ^ 64
        → WritesOr {T = Unit {0}} sink FailsBy (text_from x pids x.state) x.out z.out (Err stop)
    explain-begun [] x z none fits = absurd none
    explain-begun (pid ∷ pids) x z stopped fits =
        ⊎_elim
        (λ it. or_as (sym (answers-append x.observer.extra (explained_step_lines x.observer.extra x.observer.number x.observer.explainer x.state pid) _)) (or_longer _ it.begun))
        (λ it. or_as (text-both pid x it.0 it.1 (omega arith) pids) (or_both it.1.written (explain-begun pids it.0 z it.2 (omega (arith, it.1.number)))))
        stopped

    -- out of memory stops a run only before an execve that leads to a program
    pub explain-stopped : (pids : List ℕ) (x z : Observed Explaining W) → AreStopped (ExplainsStep sink) (StopsExplaining sink stop) pids x z → x.observer.number + length pids < 2 ^ 64
        → StopsExplained x.observer.extra stop x.observer.number x.observer.explainer pids x.state z.state (sink.written x.out) (sink.written z.out)
    explain-stopped [] x z none fits = absurd none
    explain-stopped (pid ∷ pids) x z stopped fits =
        ⊎_elim
        (λ it. stops-before (text_from x) x.state pid stop pids z.state _ _ it.at)
        (λ it.
        stops-after (text_from x) x.state pid (text_from it.0) _ it.0.state it.1.after (text-both pid x it.0 it.1 (omega arith)) stop pids z.state _ _ _ it.1.written.whole
        (explain-stopped pids it.0 z it.2 (omega (arith, it.1.number))))
        stopped
