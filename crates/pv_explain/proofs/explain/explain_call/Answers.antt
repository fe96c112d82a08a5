use Rattle.std.proofs.Common.{◌∙◌, List, ap, refl}
use Rattle.std.proofs.lemmas.Result.{err_from_is_err_and}
use Rattle.pv_model.specs.Machine.{Setting, call_of, program_of, settings_of, process_at}
use Rattle.pv_streams.proofs.WriterContracts.{or_ok, writes_as, writes_both, writes_longer}
use Rattle.pv_step_lines.specs.declared.making.MadeStep.TheVariants.{Call as CallMade}
use Rattle.pv_step_lines.specs.Origin.{settings_in}
use Rattle.pv_explain.specs.Made.{settings_made}
use Rattle.pv_step_lines.proofs.StepStates.{left-by}
use Rattle.pv_model.specs.Answers.Explain.{set_text}
use Rattle.pv_explain.specs.Errors.{added_by}
use Rattle.pv_explain.proofs.AddedLines.{call-adds-by}
use Rattle.pv_explain.proofs.StepRecords.{settings-made, step-text}
use Rattle.pv_explain.specs.Steps.{steps_text}
use Rattle.pv_step_lines.proofs.OfSession.StoppedRuns.{stops-here}
use Rattle.pv_streams.proofs.StoppedWriters.{no_memory, unwritten}
use Rattle.pv_explain.proofs.explain.explain_call.Goals as goal

pub returns-in_err-made-clause-written : goal.returns-in_err-made-clause-written
returns-in_err-made-clause-written g c = no_memory c.from_residual.ensures.1

pub returns-in_err-made-clause-stopped : goal.returns-in_err-made-clause-stopped
returns-in_err-made-clause-stopped g c =
    let p = err_from_is_err_and c.from_residual.result c.from_residual.ensures.1 in
    rw p.1 (stops-here (steps_text c.args.extra c.args.step.number c.args.origins.now) c.args.session.now c.args.step.pid c.make_call.new.session (g.W.Sink.written c.args.out.now)
    c.in_err-made.ensures.unchanged refl c.in_err-made.ensures.memory p.0 p.2)

pub returns-in_err-write_step_line-clause-written : goal.returns-in_err-write_step_line-clause-written
returns-in_err-write_step_line-clause-written g c =
    let made = c.in_ok-made.ensures.made in
    let comes = c.requires in
    let added = λ (mine : List Setting).
    call-adds-by c.args.session.now c.args.step.pid c.in_ok-made.made c.make_call.new.session made c.of-prior.result mine c.args.extra
    c.parts-parts.result.now c.parts-parts.ensures.value comes.0 (call_of c.args.call) comes.1 comes.2 c.of-prior.ensures in
    unwritten c.from_residual-in_err-write_step_line.ensures.1
    (writes_as (step-text c.args.session.now c.args.step.pid (CallMade c.in_ok-made.made) c.make_call.new.session made c.args.extra c.args.step.number c.args.origins.now _ refl _ (added (settings_of c.args.origins.now c.args.step.pid)))
    (writes_longer _ c.in_err-write_step_line.ensures))

pub returns-in_err-write_call_and_added-clause-written : goal.returns-in_err-write_call_and_added-clause-written
returns-in_err-write_call_and_added-clause-written g c =
    let made = c.in_ok-made.ensures.made in
    let comes = c.requires in
    let added = λ (mine : List Setting).
    call-adds-by c.args.session.now c.args.step.pid c.in_ok-made.made c.make_call.new.session made c.of-prior.result mine c.args.extra
    c.parts-parts.result.now c.parts-parts.ensures.value comes.0 (call_of c.args.call) comes.1 comes.2 c.of-prior.ensures in
    unwritten c.from_residual-in_err-write_call_and_added.ensures.1
    (writes_as (step-text c.args.session.now c.args.step.pid (CallMade c.in_ok-made.made) c.make_call.new.session made c.args.extra c.args.step.number c.args.origins.now (settings_in c.of.result.now) c.of.ensures.value _
    (added (settings_in c.of.result.now) ∙ ap (λ (own : List Setting). added_by c.args.extra (set_text program_of own) c.args.session.now c.args.step.pid) c.of.ensures.value))
    (writes_both c.in_ok-write_step_line.ensures c.in_err-write_call_and_added.ensures))

pub returns-clause-after : goal.returns-clause-after
returns-clause-after g c = left-by c.args.session.now c.args.step.pid (CallMade c.in_ok-made.made) c.make_call.new.session c.in_ok-made.ensures.made

pub returns-clause-written : goal.returns-clause-written
returns-clause-written g c =
    let made = c.in_ok-made.ensures.made in
    let comes = c.requires in
    let added = λ (mine : List Setting).
    call-adds-by c.args.session.now c.args.step.pid c.in_ok-made.made c.make_call.new.session made c.of-prior.result mine c.args.extra
    c.parts-parts.result.now c.parts-parts.ensures.value comes.0 (call_of c.args.call) comes.1 comes.2 c.of-prior.ensures in
    or_ok
    (writes_as (step-text c.args.session.now c.args.step.pid (CallMade c.in_ok-made.made) c.make_call.new.session made c.args.extra c.args.step.number c.args.origins.now (settings_in c.of.result.now) c.of.ensures.value _
    (added (settings_in c.of.result.now) ∙ ap (λ (own : List Setting). added_by c.args.extra (set_text program_of own) c.args.session.now c.args.step.pid) c.of.ensures.value))
    (writes_both c.in_ok-write_step_line.ensures c.in_ok-write_call_and_added.ensures))

pub returns-clause-keeps : goal.returns-clause-keeps
returns-clause-keeps g c q lives =
    let pid = c.args.step.pid in
    let made = CallMade c.in_ok-made.made in
    let now = c.make_call.new.session in
    c.follow.ensures q (lives.0, ap (λ t. process_at t q) c.parts.ensures.value ∙ lives.1)
    ∙ ap (λ t. settings_of (settings_made pid made t c.args.origins.now) q) c.parts.ensures.value
    ∙ ap (λ all. settings_of all q) (settings-made c.args.session.now pid made now c.args.origins.now c.in_ok-made.ensures.made)
