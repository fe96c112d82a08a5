use Rattle.std.proofs.Common.{Err, ◌∙◌, ap, refl, sym, ℕ}
use Rattle.std.specs.Prelude.{max}
use Rattle.std.proofs.Math.Nat.{max_comm}
use Rattle.pv_model.specs.Machine.{and_then, comparison, program_of}
use Rattle.pv_questions.specs.Answers.{end_of_comparison, of_comparison}
use Rattle.pv_questions.specs.Trees.{machine_in}
use Rattle.pv_questions.proofs.CheckKinds.{machine-kind}
use Rattle.pv_questions.proofs.QuestionAnswers.{stop-is_memory}
use Rattle.pv_questions.proofs.WrittenAnswers.{answer-as, checked-written, next-written, stopped-written, whole-written}
use Rattle.pv_questions.proofs.comparing.write_comparison.Goals as goal

pub returns-in_err-first-clause-written : goal.returns-in_err-first-clause-written
returns-in_err-first-clause-written g c =
    checked-written (machine_in c.args.first.format c.args.first.bytes.items)
    (λ s. and_then (λ f. f) (machine_in c.args.second.format c.args.second.bytes.items)
    (λ t. of_comparison (comparison program_of (max 1 c.args.pairs) s t))) _ c.from_residual.ensures.1
    (machine-kind c.args.first.format c.args.first.bytes.items) c.in_err-first.ensures.refused

pub returns-in_err-first-clause-late : goal.returns-in_err-first-clause-late
returns-in_err-first-clause-late g c = λ e. refl

pub returns-in_err-second-clause-written : goal.returns-in_err-second-clause-written
returns-in_err-second-clause-written g c =
    next-written (machine_in c.args.first.format c.args.first.bytes.items)
    (λ s. and_then (λ f. f) (machine_in c.args.second.format c.args.second.bytes.items)
    (λ t. of_comparison (comparison program_of (max 1 c.args.pairs) s t))) _ c.in_ok-first.ensures.machine
    (checked-written (machine_in c.args.second.format c.args.second.bytes.items)
    (λ t. of_comparison (comparison program_of (max 1 c.args.pairs) c.in_ok-first.first t)) _ c.from_residual-in_err-second.ensures.1
    (machine-kind c.args.second.format c.args.second.bytes.items) c.in_err-second.ensures.refused)

pub returns-in_err-second-clause-late : goal.returns-in_err-second-clause-late
returns-in_err-second-clause-late g c = λ e. refl

pub returns-in_err-compared-clause-written : goal.returns-in_err-compared-clause-written
returns-in_err-compared-clause-written g c =
    next-written (machine_in c.args.first.format c.args.first.bytes.items)
    (λ s. and_then (λ f. f) (machine_in c.args.second.format c.args.second.bytes.items)
    (λ t. of_comparison (comparison program_of (max 1 c.args.pairs) s t))) _ c.in_ok-first.ensures.machine
    (next-written (machine_in c.args.second.format c.args.second.bytes.items)
    (λ t. of_comparison (comparison program_of (max 1 c.args.pairs) c.in_ok-first.first t)) _ c.in_ok-second.ensures.machine
    (answer-as (ap (λ (n : ℕ). of_comparison (comparison program_of n c.in_ok-first.first c.in_ok-second.second)) (c.max.ensures ∙ max_comm c.args.pairs 1))
    (stopped-written c.from_residual-in_err-compared.ensures.1 c.in_err-compared.ensures.written)))

pub returns-in_err-compared-clause-late : goal.returns-in_err-compared-clause-late
returns-in_err-compared-clause-late g c = λ e. c.in_err-compared.ensures.nothing (ap Err (stop-is_memory c.in_err-compared.field-0.0 _ c.from_residual-in_err-compared.ensures.1 e))

pub returns-clause-written : goal.returns-clause-written
returns-clause-written g c =
    next-written (machine_in c.args.first.format c.args.first.bytes.items)
    (λ s. and_then (λ f. f) (machine_in c.args.second.format c.args.second.bytes.items)
    (λ t. of_comparison (comparison program_of (max 1 c.args.pairs) s t))) _ c.in_ok-first.ensures.machine
    (next-written (machine_in c.args.second.format c.args.second.bytes.items)
    (λ t. of_comparison (comparison program_of (max 1 c.args.pairs) c.in_ok-first.first t)) _ c.in_ok-second.ensures.machine
    (answer-as (ap (λ (n : ℕ). of_comparison (comparison program_of n c.in_ok-first.first c.in_ok-second.second)) (c.max.ensures ∙ max_comm c.args.pairs 1))
    (whole-written (sym (c.of_comparison.ensures ∙ ap end_of_comparison c.in_ok-compared.ensures.compared)) c.in_ok-compared.ensures.written)))

pub returns-clause-late : goal.returns-clause-late
returns-clause-late g c = λ e. cc e
