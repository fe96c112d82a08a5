use Rattle.pv_model.specs.Machine.{call_of}
use Rattle.pv_calls.proofs.CallAnswers.{next-caller, carried-on, next-DoesNotBlock, blocked-carried}
use Rattle.pv_calls.proofs.calls.make_allowed_call.Goals as goal

pub make_other_call-requires-clause-caller : goal.make_other_call-requires-clause-caller
make_other_call-requires-clause-caller g c = next-caller (g.L.Lookup.agrees c.args.system.now.lookup) c.args.system.now.parts c.advance.new.self c.args.pid c.advance.ensures c.requires.caller

pub make_other_call-requires-clause-continues : goal.make_other_call-requires-clause-continues
make_other_call-requires-clause-continues g c =
    next-DoesNotBlock c.args.system.now.parts c.advance.new.self c.args.pid (call_of c.args.call) c.advance.ensures c.requires.caller.live c.requires.caller.whole.processes.ascending (c.is_blocked.ensures.continues c.if-is_blocked.false)

pub returns-then-is_blocked-clause-carried : goal.returns-then-is_blocked-clause-carried
returns-then-is_blocked-clause-carried g c = blocked-carried c.args.system.now.parts c.args.pid (call_of c.args.call) c.requires.caller.whole.processes.ascending (c.is_blocked.ensures.blocked c.if-is_blocked.true)

pub returns-clause-carried : goal.returns-clause-carried
returns-clause-carried g c =
    carried-on c.args.system.now.parts c.advance.new.self c.args.pid (call_of c.args.call) c.make_other_call.new.system.parts c.make_other_call.result c.advance.ensures c.make_other_call.ensures.performed
