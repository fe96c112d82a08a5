-- A step, as in the definitions: its number and line, and the records after it.
use Rattle.std.proofs.Common.{◌≡◌, ◌∙◌, ℕ, List, ◌++◌, Some, ap, ap₂, sym}
use Rattle.std.specs.Prelude.{codes}
use Rattle.std.specs.Fmt.{decimal}
use Rattle.pv_model.specs.Machine.{Answered, settings_next, AnswerLine, answer_line, answer_bytes, answer_line_bytes, Setting, Settings, settings_of, Bytes, call_of, program_of, State, process_at}
use Rattle.pv_model.specs.Answers.Explain.{location_at, step_line}
use Rattle.pv_model.specs.Answers.Settings.{settings_after}
use Rattle.pv_step_lines.specs.declared.making.MadeStep.{MadeStep}
use Rattle.pv_step_lines.specs.declared.making.MadeStep.TheVariants.{Gone, Register, Call as CallMade}
use Rattle.pv_explain.specs.Keeping.{entry_for_target, reported_settings}
use Rattle.pv_step_lines.specs.Made.{IsMade, line_before_step, made_lines}
use Rattle.pv_model_questions.specs.ExplainMore.{source_in}
use Rattle.pv_explain.specs.declared.extra.Extra.{Extra}
use Rattle.pv_explain.specs.Errors.{added_by}
use Rattle.pv_explain.specs.Made.{settings_made}
use Rattle.pv_explain.specs.Steps.{location_text, explained_step_lines, step_text}
use Rattle.pv_explain.proofs.EntryOrigins.{reported-is, next-gone, next-inside, next-called}
use Rattle.pv_step_lines.proofs.MadeLines.{made-is}

appeared : (s : State) (pid : ℕ) (made : MadeStep) (after : State) → IsMade s pid made after → location_text (line_before_step made) ≡ location_at program_of (process_at s pid)
appeared s pid Gone after is = sym (ap (location_at program_of) is.0)
appeared s pid (Register n) after is = ap (λ k. location_text (Some k)) is.appeared ∙ sym (ap (location_at program_of) is.lives)
appeared s pid (CallMade m) after is = ap (λ k. location_text (Some k)) is.before.line ∙ sym (ap (location_at program_of) is.lives)

module _ (s : State) (pid : ℕ) (made : MadeStep) (after : State) (is : IsMade s pid made after) where
  line-is : (k : ℕ) → answer_line pid (codes "STEP") (step_text k (line_before_step made)) ≡ step_line program_of k s pid
  line-is k = ap (λ (bs : Bytes). answer_line pid (codes "STEP") (decimal k ++ bs)) (appeared s pid made after is)

  -- the STEP line, then the lines of the step, and then the lines added to it
  pub step-text : (extra : Extra) (k : ℕ) (all : Settings) (mine : List Setting) → mine ≡ settings_of all pid
      → (added : List AnswerLine) → added ≡ added_by extra (source_in all pid) s pid
      → answer_line_bytes (answer_line pid (codes "STEP") (step_text k (line_before_step made))) ++ answer_bytes (made_lines pid mine made after ++ added)
      ≡ answer_bytes (explained_step_lines extra k all s pid)
  step-text extra k all mine same added is_added =
      ap (λ (l : AnswerLine). answer_line_bytes l ++ answer_bytes (made_lines pid mine made after ++ added)) (line-is k)
      ∙ ap (λ (own : List Setting). answer_line_bytes (step_line program_of k s pid) ++ answer_bytes (made_lines pid own made after ++ added)) same
      ∙ ap₂ (λ (ls others : List AnswerLine). answer_line_bytes (step_line program_of k s pid) ++ answer_bytes (ls ++ others)) (made-is s pid (settings_of all pid) made after is)
      is_added

-- the records after a step
pub settings-made : (s : State) (pid : ℕ) (made : MadeStep) (after : State) (all : Settings) → IsMade s pid made after → settings_made pid made after all ≡ settings_next program_of s pid all
settings-made s pid Gone after all is = sym (next-gone s pid all is.0)
settings-made s pid (Register n) after all is = sym (next-inside s pid all is.me is.then_is is.lives is.comes)
settings-made s pid (CallMade m) after all is =
    ap (λ n. reported_settings pid n (process_at after pid) (entry_for_target m.before.target (process_at after pid)) all (call_of m.call) m.answer.outcome) is.before.line
    ∙ ap (λ target. reported_settings pid is.me.line (process_at after pid) (entry_for_target target (process_at after pid)) all (call_of m.call) m.answer.outcome) is.before.target
    ∙ sym (reported-is s pid is.me after all (call_of m.call) m.answer.outcome)
    ∙ sym (ap (λ (a : Answered). settings_after s pid is.me a.after all (call_of m.call) a.outcome) is.answered)
    ∙ sym (next-called s pid all is.me (call_of m.call) is.lives is.comes)
