use Rattle.std.proofs.Common.{◌∙◌, [], refl, subst, sym}
use Rattle.std.proofs.lemmas.List.{append-nil}
use Rattle.pv_streams.proofs.WriterContracts.{or_ok, writes_as, writes_both, writes_longer}
use Rattle.pv_step_lines.specs.declared.making.MadeStep.TheVariants.{Gone, Register}
use Rattle.pv_step_lines.proofs.OfSession.MachineSteps.{lent-process}
use Rattle.pv_step_lines.proofs.StepStates.{left-by}
use Rattle.pv_explain.proofs.AddedLines.{gone-adds, inside-adds}
use Rattle.pv_explain.proofs.StepRecords.{step-text}
use Rattle.pv_streams.proofs.StoppedWriters.{unwritten}
use Rattle.pv_explain.specs.Steps.{explained_step_lines}
use Rattle.pv_model.specs.Answers.Settings.{Settings}
use Rattle.pv_model.specs.Machine.{answer_bytes}
use Rattle.pv_streams.specs.Sinks.{FailsBy, WritesOr}
use Rattle.pv_explain.proofs.explain.Explainer.explain_step.Goals as goal

-- ---- a process that is not live

pub returns-in_err-write_step_line-in-Gone-clause-written : goal.returns-in_err-write_step_line-in-Gone-clause-written
returns-in_err-write_step_line-in-Gone-clause-written g c =
    let s = c.args.session.now in
    let none = sym (lent-process s c.parts.result.now c.processes.result.now c.args.pid c.parts.ensures.value c.processes.ensures) ∙ c.in-Gone.ensures in
    unwritten c.from_residual.ensures.1
    (writes_as (step-text s c.args.pid Gone s (none, refl) c.args.extra c.args.number c.args.self.now _ refl [] (sym (gone-adds c.args.extra _ s c.args.pid none))) (writes_longer _ c.in_err-write_step_line-in-Gone.ensures))

pub returns-in_err-write_gone_line-in-Gone-clause-written : goal.returns-in_err-write_gone_line-in-Gone-clause-written
returns-in_err-write_gone_line-in-Gone-clause-written g c =
    let s = c.args.session.now in
    let none = sym (lent-process s c.parts.result.now c.processes.result.now c.args.pid c.parts.ensures.value c.processes.ensures) ∙ c.in-Gone.ensures in
    unwritten c.from_residual-in_err-write_gone_line-in-Gone.ensures.1
    (writes_as (step-text s c.args.pid Gone s (none, refl) c.args.extra c.args.number c.args.self.now _ refl [] (sym (gone-adds c.args.extra _ s c.args.pid none)))
    (writes_both c.in_ok-write_step_line-in-Gone.ensures c.in_err-write_gone_line-in-Gone.ensures))

pub returns-in_ok-write_gone_line-in-Gone-clause-after : goal.returns-in_ok-write_gone_line-in-Gone-clause-after
returns-in_ok-write_gone_line-in-Gone-clause-after g c =
    let s = c.args.session.now in
    let none = sym (lent-process s c.parts.result.now c.processes.result.now c.args.pid c.parts.ensures.value c.processes.ensures) ∙ c.in-Gone.ensures in
    left-by s c.args.pid Gone s (none, refl)

pub returns-in_ok-write_gone_line-in-Gone-clause-written : goal.returns-in_ok-write_gone_line-in-Gone-clause-written
returns-in_ok-write_gone_line-in-Gone-clause-written g c =
    let s = c.args.session.now in
    let none = sym (lent-process s c.parts.result.now c.processes.result.now c.args.pid c.parts.ensures.value c.processes.ensures) ∙ c.in-Gone.ensures in
    or_ok
    (writes_as (step-text s c.args.pid Gone s (none, refl) c.args.extra c.args.number c.args.self.now _ refl [] (sym (gone-adds c.args.extra _ s c.args.pid none)))
    (writes_both c.in_ok-write_step_line-in-Gone.ensures c.in_ok-write_gone_line-in-Gone.ensures))

-- ---- an instruction on registers

pub returns-in_err-write_step_line-in-Register-clause-written : goal.returns-in_err-write_step_line-in-Register-clause-written
returns-in_err-write_step_line-in-Register-clause-written g c =
    let register = Register c.make_register-line.result in
    let it = c.make_register-line.ensures in
    unwritten c.from_residual-in_err-write_step_line-in-Register.ensures.1
    (writes_as (step-text c.args.session.now c.args.pid register c.make_register-line.new.session c.make_register-line.ensures c.args.extra c.args.number c.args.self.now _ refl [] (sym (inside-adds c.args.extra _ c.args.session.now c.args.pid it.me it.then_is it.lives it.comes)))
    (writes_longer _ c.in_err-write_step_line-in-Register.ensures))

pub returns-in_ok-write_step_line-in-Register-clause-after : goal.returns-in_ok-write_step_line-in-Register-clause-after
returns-in_ok-write_step_line-in-Register-clause-after g c =
    left-by c.args.session.now c.args.pid (Register c.make_register-line.result) c.make_register-line.new.session c.make_register-line.ensures

pub returns-in_ok-write_step_line-in-Register-clause-written : goal.returns-in_ok-write_step_line-in-Register-clause-written
returns-in_ok-write_step_line-in-Register-clause-written g c =
    let register = Register c.make_register-line.result in
    let it = c.make_register-line.ensures in
    or_ok
    (writes_as
    (sym (append-nil _) ∙ step-text c.args.session.now c.args.pid register c.make_register-line.new.session c.make_register-line.ensures c.args.extra c.args.number c.args.self.now _ refl [] (sym (inside-adds c.args.extra _ c.args.session.now c.args.pid it.me it.then_is it.lives it.comes)))
    c.in_ok-write_step_line-in-Register.ensures)

-- ---- a call

pub returns-in-Call-clause-written : goal.returns-in-Call-clause-written
returns-in-Call-clause-written g c =
    let written = λ (os : Settings). WritesOr g.W.Sink FailsBy (answer_bytes (explained_step_lines c.args.extra c.args.number os c.args.session.now c.args.pid)) c.args.out.now c.explain_call.new.out c.explain_call.result in
    subst written c.self.view_is c.explain_call.ensures.written
