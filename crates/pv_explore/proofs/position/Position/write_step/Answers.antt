use Rattle.std.proofs.Common.{◌∙◌, ap, subst}
use Rattle.pv_streams.proofs.WriterContracts.{or_ok, writes_as, writes_both, writes_longer}
use Rattle.pv_step_lines.specs.Made.{IsMade}
use Rattle.pv_step_lines.proofs.StepStates.{left-by}
use Rattle.pv_streams.proofs.StoppedWriters.{no_memory, unwritten}
use Rattle.pv_explore.proofs.GraphStepLines.{step-bytes}
use Rattle.pv_explore.proofs.LastProcessNumbers.{gave-known}
use Rattle.pv_model.specs.Machine.{State}
use Rattle.pv_step_cache.specs.OfStateEncoding.Groups.{groups_of, state_groups}
use Rattle.pv_explore.proofs.position.Position.write_step.Goals as goal

pub returns-in_err-made : goal.returns-in_err-made
returns-in_err-made g c = no_memory c.from_residual.ensures.1

pub last_number-self-inside-requires-clause-gave : goal.last_number-self-inside-requires-clause-gave
last_number-self-inside-requires-clause-gave g c =
    gave-known c.self.inside.session c.parts-2.result.now c.args.pid c.self.inside.last c.self.invariant
    (c.parts-2.ensures.value ∙ left-by c.self.inside.session c.args.pid c.in_ok-made.made c.make_step.new.session c.in_ok-made.ensures.made)

pub returns-in_err-groups : goal.returns-in_err-groups
returns-in_err-groups g c = no_memory c.from_residual-in_err-groups.ensures.1

pub find-requires : goal.find-requires
find-requires g c = (c.parts-3.result.now, ap groups_of c.deref.ensures.value ∙ c.in_ok-groups.ensures)

pub returns-in_err-number : goal.returns-in_err-number
returns-in_err-number g c = no_memory c.from_residual-in_err-number.ensures.1

pub write_made-requires : goal.write_made-requires
write_made-requires g c = c.in_ok-made.ensures.fit

pub returns-in_err-write_leads : goal.returns-in_err-write_leads
returns-in_err-write_leads g c =
    let made = c.in_ok-made.made in
    let after = c.make_step.new.session in
    let groups = ap groups_of c.deref.ensures.value ∙ c.in_ok-groups.ensures ∙ ap state_groups c.parts-3.ensures.value in
    let is = step-bytes c.args.states.now c.args.self.now c.args.pid made after (groups_of c.deref.result.now) c.in_ok-number.number (subst (λ (t : State). IsMade t c.args.pid made after) c.self.view_is c.in_ok-made.ensures.made) groups c.in_ok-number.ensures in
    unwritten c.from_residual-in_err-write_leads.ensures.1 (writes_as is (writes_longer _ c.in_err-write_leads.ensures))

pub returns-in_err-write_made : goal.returns-in_err-write_made
returns-in_err-write_made g c =
    let made = c.in_ok-made.made in
    let after = c.make_step.new.session in
    let groups = ap groups_of c.deref.ensures.value ∙ c.in_ok-groups.ensures ∙ ap state_groups c.parts-3.ensures.value in
    let is = step-bytes c.args.states.now c.args.self.now c.args.pid made after (groups_of c.deref.result.now) c.in_ok-number.number (subst (λ (t : State). IsMade t c.args.pid made after) c.self.view_is c.in_ok-made.ensures.made) groups c.in_ok-number.ensures in
    unwritten c.from_residual-in_err-write_made.ensures.1 (writes_as is (writes_both c.in_ok-write_leads.ensures c.in_err-write_made.ensures))

pub returns : goal.returns
returns g c =
    let made = c.in_ok-made.made in
    let after = c.make_step.new.session in
    let groups = ap groups_of c.deref.ensures.value ∙ c.in_ok-groups.ensures ∙ ap state_groups c.parts-3.ensures.value in
    let is = step-bytes c.args.states.now c.args.self.now c.args.pid made after (groups_of c.deref.result.now) c.in_ok-number.number (subst (λ (t : State). IsMade t c.args.pid made after) c.self.view_is c.in_ok-made.ensures.made) groups c.in_ok-number.ensures in
    or_ok (writes_as is (writes_both c.in_ok-write_leads.ensures c.in_ok-write_made.ensures))
