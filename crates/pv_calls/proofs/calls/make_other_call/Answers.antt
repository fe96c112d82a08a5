use Rattle.std.proofs.Common.{sym, subst}
use Rattle.pv_model.specs.Machine.{effect, call_of, program_of, find_entry}
use Rattle.pv_calls.proofs.LiveCallers.{lives}
use Rattle.pv_calls.proofs.StatesAfterCalls.{reported-live}
use Rattle.pv_calls.proofs.calls.make_other_call.Goals as goal

pub report-requires : goal.report-requires
report-requires g c = record {
  live = reported-live (λ s me. effect program_of s c.args.pid me (call_of c.args.call)) c.args.system.now.parts c.dispatch_call.new.system.parts c.args.pid c.in-Performed.performed c.in-Performed.ensures.replied c.requires.caller.live
      (λ me at. lives c.args.system.now.parts c.args.pid me at c.requires.caller.whole (call_of c.args.call));
  small = c.in-Performed.ensures.replied.small;
}

pub returns-in-Performed-clause-performed : goal.returns-in-Performed-clause-performed
returns-in-Performed-clause-performed g c = λ before me at.
    let is = c.in-Performed.ensures.replied in
    c.report.ensures.reported before c.args.system.now.parts me (effect program_of c.args.system.now.parts c.args.pid me (call_of c.args.call)) (is.as_defined me at) is.unchanged

pub returns-in-Performed-clause-agrees : goal.returns-in-Performed-clause-agrees
returns-in-Performed-clause-agrees g c =
    subst (λ t. g.L.Lookup.agrees c.dispatch_call.new.system.lookup (find_entry t)) (sym c.report.ensures.tree) c.in-Performed.ensures.agrees
