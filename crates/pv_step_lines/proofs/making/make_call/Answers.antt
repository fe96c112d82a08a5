use Rattle.std.proofs.Common.{ap, subst, ◌∙◌}
use Rattle.pv_model.specs.Machine.{call_of, State, process_at}
use Rattle.pv_step_lines.specs.Before.{IsBefore}
use Rattle.pv_step_lines.specs.Made.{IsMadeCall}
use Rattle.pv_step_lines.proofs.WritableSteps.{call-fits}
use Rattle.pv_step_lines.proofs.StepStates.{whole-made}
use Rattle.pv_step_lines.proofs.making.make_call.Goals as goal

pub returns-clause-made : goal.returns-clause-made
returns-clause-made c =
    let comes = c.requires in record {
      me = comes.0;
      lives = comes.1;
      comes = comes.2;
      answered = c.in_ok-answer.ensures.answered;
      before = subst (λ (s : State). IsBefore s c.args.pid comes.0 (call_of c.args.call) c.of-before.result) c.parts.ensures.value
          (c.of-before.ensures comes.0 (ap (λ s. process_at s c.args.pid) c.parts.ensures.value ∙ comes.1));
    }

pub returns-clause-fit : goal.returns-clause-fit
returns-clause-fit c =
    let made : IsMadeCall c.args.session.now c.args.pid (record { call = c.args.call; answer = c.in_ok-answer.answer; before = c.of-before.result }) c.call.new.self = returns-clause-made c in
    call-fits c.args.session.now c.args.pid (record { call = c.args.call; answer = c.in_ok-answer.answer; before = c.of-before.result }) c.call.new.self c.parts.ensures.whole
    (whole-made c.args.session.now c.args.pid _ c.call.new.self c.parts.ensures.whole made) made
