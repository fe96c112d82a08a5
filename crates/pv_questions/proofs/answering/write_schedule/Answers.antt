use Rattle.std.proofs.Common.{◌∙◌, ap, refl, ℕ}
use Rattle.std.specs.Prelude.{max}
use Rattle.std.proofs.Math.Nat.{max_comm}
use Rattle.pv_model.specs.Answers.Turns.{schedule_text}
use Rattle.pv_model.specs.Machine.{program_of, turns}
use Rattle.pv_questions.specs.Answers.{of_text}
use Rattle.pv_questions.specs.Trees.{machine_in}
use Rattle.pv_questions.proofs.CheckKinds.{machine-kind}
use Rattle.pv_questions.proofs.WrittenAnswers.{answer-as, checked-written, next-written, stopped-written, whole-written}
use Rattle.pv_questions.proofs.answering.write_schedule.Goals as goal

pub returns-in_err-session : goal.returns-in_err-session
returns-in_err-session g c =
    checked-written (machine_in c.args.input.format c.args.input.bytes.items)
    (λ s. of_text (schedule_text (turns program_of (max 1 c.args.slice) c.args.steps s))) _ c.from_residual.ensures.1
    (machine-kind c.args.input.format c.args.input.bytes.items) c.in_err-session.ensures.refused

pub returns-in_err-write_turns : goal.returns-in_err-write_turns
returns-in_err-write_turns g c =
    next-written (machine_in c.args.input.format c.args.input.bytes.items)
    (λ s. of_text (schedule_text (turns program_of (max 1 c.args.slice) c.args.steps s))) _ c.in_ok-session.ensures.machine
    (answer-as (ap (λ (n : ℕ). of_text (schedule_text (turns program_of n c.args.steps c.in_ok-session.session))) (c.max.ensures ∙ max_comm c.args.slice 1))
    (stopped-written c.from_residual-in_err-write_turns.ensures.1 c.in_err-write_turns.ensures.written))

pub returns : goal.returns
returns g c =
    next-written (machine_in c.args.input.format c.args.input.bytes.items)
    (λ s. of_text (schedule_text (turns program_of (max 1 c.args.slice) c.args.steps s))) _ c.in_ok-session.ensures.machine
    (answer-as (ap (λ (n : ℕ). of_text (schedule_text (turns program_of n c.args.steps c.in_ok-session.session))) (c.max.ensures ∙ max_comm c.args.slice 1))
    (whole-written refl c.in_ok-write_turns.ensures.written))
