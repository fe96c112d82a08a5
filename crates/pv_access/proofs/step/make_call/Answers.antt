use Rattle.std.proofs.Common.{◌∙◌, ◌++◌, ap, ap₂, sym, List}
use Rattle.std.specs.Prelude.{flat_map}
use Rattle.pv_model.specs.Machine.{Answered, Bytes, call_of, State, process_at, Stepped, flags_of}
use Rattle.pv_model.specs.Answers.Access.{accesses_by_open}
use Rattle.pv_reduced.specs.OfSession.Running.{stepped}
use Rattle.pv_reduced.proofs.OfSession.MachineSteps.{step-called}
use Rattle.pv_access.specs.Candidates.{candidates}
use Rattle.pv_named_files.specs.FirstPaths.{files_given, first_tree}
use Rattle.pv_access.specs.Texts.{access_lines_in, texts_by, texts_with, with_texts}
use Rattle.pv_access.proofs.PreparedTexts.{call-texts}
use Rattle.pv_access.proofs.step.make_call.Goals as goal

pub returns-clause-after : goal.returns-clause-after
returns-clause-after c =
    let comes = c.requires in
    let a : Answered = record { after = c.call.new.self; outcome = c.in_ok-answer.answer.outcome; walks = c.in_ok-answer.answer.walks } in
    sym (ap (λ (x : Stepped). x.after) (step-called c.args.session.now c.args.pid comes.0 (call_of c.args.call) a comes.1 comes.2 c.in_ok-answer.ensures.answered))

pub returns-clause-texts : goal.returns-clause-texts
returns-clause-texts c =
    let files = files_given c.args.paths.now in
    let start = first_tree c.args.paths.now in
    let s = c.args.session.now in
    let pid = c.args.pid in
    let call = call_of c.args.call in
    let comes = c.requires in
    let me = comes.0 in
    let a : Answered = record { after = c.call.new.self; outcome = c.in_ok-answer.answer.outcome; walks = c.in_ok-answer.answer.walks } in
    let same = c.parts-parts.ensures.value in
    let at = ap (λ (x : State). process_at x pid) same ∙ comes.1 in
    let step_is = step-called s pid me call a comes.1 comes.2 c.in_ok-answer.ensures.answered in
    c.in_ok-push_opened.ensures
    ∙ ap₂ (λ (xs : List Bytes) (u : State). xs ++ flat_map (texts_by (access_lines_in files start u.tree pid)) (accesses_by_open u pid a.outcome (flags_of call)))
    (c.in_ok-texts.ensures ∙ ap (texts_with a.outcome) (c.in_ok-candidates.ensures me at ∙ ap (λ (x : State). with_texts files start x.tree pid (candidates x pid me call)) same))
    c.parts.ensures.value
    ∙ sym (call-texts files start s pid me call comes.1 comes.2 a c.in_ok-answer.ensures.answered (stepped s pid) (ap (λ (x : Stepped). x.after) step_is) (ap (λ (x : Stepped). x.outcome) step_is))
