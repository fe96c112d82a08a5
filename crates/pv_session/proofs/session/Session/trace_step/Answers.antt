use Rattle.std.proofs.Common.{ap, sym, ◌∙◌, refl, subst, length, List, rules}
use Rattle.pv_model.specs.Machine.{Stepped, Line}
use Rattle.pv_streams.proofs.OutputTexts.{on_err}
use Rattle.pv_session.specs.Running.{BeginsLines, WrittenLines, stepped}
use Rattle.pv_session.proofs.MachineSteps.{step-gone, gone-lines, inside-is, inside-after, written-none}
use Rattle.pv_calls.specs.OfProcs.declared.processes.Fetched.TheVariants.{Register}
use Rattle.pv_session.proofs.CachedSystems.{lent-state, registered-sound}
use Rattle.pv_session.proofs.session.Session.trace_step.Goals as goal

pub returns-in_err-write_gone_line-in-Gone-clause-written : goal.returns-in_err-write_gone_line-in-Gone-clause-written
returns-in_err-write_gone_line-in-Gone-clause-written g c =
    let is = gone-lines c.deref_mut-system.result.now.parts c.args.self.now c.args.pid (lent-state c.self.inside.system.value c.deref_mut-system.result.now c.deref_mut-system.ensures.value c.args.self.now c.self.view_is) c.in-Gone.ensures.0 in
    record {
      whole = search rules;
      prefix = on_err c.from_residual.result
          (subst (λ (ls : List Line). BeginsLines ls (g.W.Sink.written c.args.trace.now) (g.W.Sink.written c.write_gone_line.new.out)) (sym is) c.in_err-write_gone_line-in-Gone.ensures.prefix);
      failed = search rules;
      quiet = search rules;
    }

pub returns-in_ok-write_gone_line-in-Gone-clause-after : goal.returns-in_ok-write_gone_line-in-Gone-clause-after
returns-in_ok-write_gone_line-in-Gone-clause-after g c =
    let gone = c.in-Gone.ensures in
    gone.1 ∙ sym (ap (λ (x : Stepped). x.after) (step-gone c.deref_mut-system.result.now.parts c.args.pid gone.0)) ∙ ap (λ s. (stepped s c.args.pid).after) (lent-state c.self.inside.system.value c.deref_mut-system.result.now c.deref_mut-system.ensures.value c.args.self.now c.self.view_is)

pub returns-in_ok-write_gone_line-in-Gone-clause-written : goal.returns-in_ok-write_gone_line-in-Gone-clause-written
returns-in_ok-write_gone_line-in-Gone-clause-written g c =
    let is = gone-lines c.deref_mut-system.result.now.parts c.args.self.now c.args.pid (lent-state c.self.inside.system.value c.deref_mut-system.result.now c.deref_mut-system.ensures.value c.args.self.now c.self.view_is) c.in-Gone.ensures.0 in
    record {
      whole = subst (λ (ls : List Line). WrittenLines ls (g.W.Sink.written c.args.trace.now) (g.W.Sink.written c.write_gone_line.new.out)) (sym is) c.in_ok-write_gone_line-in-Gone.ensures.whole;
      prefix = tt;
      failed = tt;
      quiet = c.in_ok-write_gone_line-in-Gone.ensures.quiet;
    }

pub returns-in_ok-write_gone_line-in-Gone-clause-lines : goal.returns-in_ok-write_gone_line-in-Gone-clause-lines
returns-in_ok-write_gone_line-in-Gone-clause-lines g c =
    sym (ap length (gone-lines c.deref_mut-system.result.now.parts c.args.self.now c.args.pid (lent-state c.self.inside.system.value c.deref_mut-system.result.now c.deref_mut-system.ensures.value c.args.self.now c.self.view_is) c.in-Gone.ensures.0))

pub returns-in-Register-clause-after : goal.returns-in-Register-clause-after
returns-in-Register-clause-after g c =
    inside-after c.deref_mut-system.result.now.parts c.args.pid c.step_or_fetch.new.self c.in-Register.ensures ∙ ap (λ s. (stepped s c.args.pid).after) (lent-state c.self.inside.system.value c.deref_mut-system.result.now c.deref_mut-system.ensures.value c.args.self.now c.self.view_is)

pub returns-in-Register-clause-written : goal.returns-in-Register-clause-written
returns-in-Register-clause-written g c =
    let is = sym (ap (λ (x : Stepped). x.lines) (inside-is c.deref_mut-system.result.now.parts c.args.pid c.step_or_fetch.new.self c.in-Register.ensures))
    ∙ ap (λ s. (stepped s c.args.pid).lines) (lent-state c.self.inside.system.value c.deref_mut-system.result.now c.deref_mut-system.ensures.value c.args.self.now c.self.view_is) in
    record {
      whole = subst (λ (ls : List Line). WrittenLines ls (g.W.Sink.written c.args.trace.now) (g.W.Sink.written c.args.trace.now)) is (written-none (g.W.Sink.written c.args.trace.now));
      prefix = tt;
      failed = tt;
      quiet = refl;
    }

pub returns-in-Register-clause-lines : goal.returns-in-Register-clause-lines
returns-in-Register-clause-lines g c =
    ap length (sym (ap (λ (x : Stepped). x.lines) (inside-is c.deref_mut-system.result.now.parts c.args.pid c.step_or_fetch.new.self c.in-Register.ensures))
    ∙ ap (λ s. (stepped s c.args.pid).lines) (lent-state c.self.inside.system.value c.deref_mut-system.result.now c.deref_mut-system.ensures.value c.args.self.now c.self.view_is))

pub invariant_of-self-in-Register : goal.invariant_of-self-in-Register
invariant_of-self-in-Register g c =
    registered-sound c.self.inside.system.value c.deref_mut-system.result.now c.deref_mut-system.ensures.value c.self.invariant c.step_or_fetch.new.self c.args.pid Register c.in-Register.ensures
