use Rattle.std.proofs.Common.{sym, ◌∙◌, ap, option_copied, refl, subst}
use Rattle.std.specs.Prelude.{IsSome}
use Rattle.pv_model.specs.Machine.{call_of, find_entry, at_next_line, refused, with_process}
use Rattle.pv_model.specs.declared.errno.Errno.TheVariants.{ENOSYS}
use Rattle.pv_model.specs.declared.outcome.Cause.TheVariants.{Promise as ByPromise}
use Rattle.pv_model.specs.declared.outcome.Outcome.TheVariants.{Killed}
use Rattle.pv_laws_states.proofs.Processes.{update-is}
use Rattle.pv_calls.proofs.CallAnswers.{answer-gone, answer-allowed-if, answer-refused, killed-so, loads-if, next-live, decided, find-end, reported-tree, live-of, gone-of}
use Rattle.pv_calls.proofs.FirstStates.{answered-valid, called-valid}
use Rattle.pv_calls.proofs.calls.make_call.Goals as goal

pub returns-in_default-clause-answered : goal.returns-in_default-clause-answered
returns-in_default-clause-answered g c =
    answer-gone c.args.system.now.parts c.args.pid (call_of c.args.call) (gone-of c.args.system.now.parts c.args.pid (c.live_record.ensures ∙ ap option_copied c.in_default.is))

pub report-requires-clause-live : goal.report-requires-clause-live
report-requires-clause-live g c =
    let has = c.live_record.ensures ∙ ap option_copied c.in-Some.is in
    let live = live-of c.args.system.now.parts c.args.pid c.in-Some.«record».now has in
    next-live c.args.system.now.parts c.advance.new.self c.args.pid c.advance.ensures (subst IsSome (sym live.1) refl)

pub returns-in-Allowed-clause-answered : goal.returns-in-Allowed-clause-answered
returns-in-Allowed-clause-answered g c =
    let has = c.live_record.ensures ∙ ap option_copied c.in-Some.is in
    let live = live-of c.args.system.now.parts c.args.pid c.in-Some.«record».now has in
    answer-allowed-if c.args.system.now.parts c.args.pid (call_of c.args.call) live.0 live.1 c.make_allowed_call.new.system.parts c.make_allowed_call.result
    (decided c.args.system.now.parts c.args.pid c.in-Some.«record».now (call_of c.args.call) c.decide.result has c.decide.ensures live.0 live.1 ∙ c.in-Allowed.is) c.make_allowed_call.ensures.carried

pub returns-in-Allowed-clause-whole : goal.returns-in-Allowed-clause-whole
returns-in-Allowed-clause-whole g c =
    called-valid c.args.system.now.parts c.make_allowed_call.new.system.parts c.args.pid (call_of c.args.call) c.make_allowed_call.result c.requires.call c.requires.whole
    (returns-in-Allowed-clause-answered g c) c.make_allowed_call.ensures.unchanged

pub returns-in-Allowed-clause-memory : goal.returns-in-Allowed-clause-memory
returns-in-Allowed-clause-memory g c =
    let has = c.live_record.ensures ∙ ap option_copied c.in-Some.is in
    let live = live-of c.args.system.now.parts c.args.pid c.in-Some.«record».now has in
    loads-if c.args.system.now.parts c.args.pid (call_of c.args.call) live.0 live.1 c.make_allowed_call.result
    (decided c.args.system.now.parts c.args.pid c.in-Some.«record».now (call_of c.args.call) c.decide.result has c.decide.ensures live.0 live.1 ∙ c.in-Allowed.is) c.make_allowed_call.ensures.memory

pub returns-in-Kill-clause-answered : goal.returns-in-Kill-clause-answered
returns-in-Kill-clause-answered g c =
    let has = c.live_record.ensures ∙ ap option_copied c.in-Some.is in
    let live = live-of c.args.system.now.parts c.args.pid c.in-Some.«record».now has in
    killed-so c.args.system.now.parts c.args.pid (call_of c.args.call) live.0 live.1 c.in-Kill.promise c.end.new.self
    (decided c.args.system.now.parts c.args.pid c.in-Some.«record».now (call_of c.args.call) c.decide.result has c.decide.ensures live.0 live.1 ∙ c.in-Kill.is) (c.end.ensures live.0 live.1)

pub returns-in-Kill-clause-whole : goal.returns-in-Kill-clause-whole
returns-in-Kill-clause-whole g c =
    answered-valid c.args.system.now.parts c.end.new.self c.args.pid (call_of c.args.call) (record { outcome = Killed c.in-Kill.promise; walks = 0 }) c.requires.call c.requires.whole
    (returns-in-Kill-clause-answered g c)

pub returns-in-Kill-clause-agrees : goal.returns-in-Kill-clause-agrees
returns-in-Kill-clause-agrees g c =
    let has = c.live_record.ensures ∙ ap option_copied c.in-Some.is in
    let live = live-of c.args.system.now.parts c.args.pid c.in-Some.«record».now has in
    g.met.L.Lookup.same_answers c.args.system.now.lookup _ _ c.requires.agrees (find-end c.args.system.now.parts c.args.pid live.0 6 c.end.new.self c.requires.whole (c.end.ensures live.0 live.1))

pub returns-in-Refuse-clause-answered : goal.returns-in-Refuse-clause-answered
returns-in-Refuse-clause-answered g c =
    let has = c.live_record.ensures ∙ ap option_copied c.in-Some.is in
    let live = live-of c.args.system.now.parts c.args.pid c.in-Some.«record».now has in
    answer-refused c.args.system.now.parts c.args.pid (call_of c.args.call) live.0 live.1 c.in-Refuse.promise
    (decided c.args.system.now.parts c.args.pid c.in-Some.«record».now (call_of c.args.call) c.decide.result has c.decide.ensures live.0 live.1 ∙ c.in-Refuse.is)
    ∙ c.report.ensures.reported c.args.system.now.parts (with_process c.args.system.now.parts c.args.pid (at_next_line live.0)) (at_next_line live.0) (refused 0 ENOSYS (ByPromise c.in-Refuse.promise)) refl
    (c.advance.ensures ∙ update-is c.args.system.now.parts c.args.pid at_next_line live.0 live.1)

pub returns-in-Refuse-clause-whole : goal.returns-in-Refuse-clause-whole
returns-in-Refuse-clause-whole g c =
    answered-valid c.args.system.now.parts c.report.new.parts c.args.pid (call_of c.args.call) c.report.result c.requires.call c.requires.whole (returns-in-Refuse-clause-answered g c)

pub returns-in-Refuse-clause-agrees : goal.returns-in-Refuse-clause-agrees
returns-in-Refuse-clause-agrees g c =
    let has = c.live_record.ensures ∙ ap option_copied c.in-Some.is in
    let live = live-of c.args.system.now.parts c.args.pid c.in-Some.«record».now has in
    let next = with_process c.args.system.now.parts c.args.pid (at_next_line live.0) in
    let reported = c.report.ensures.reported c.args.system.now.parts next (at_next_line live.0) (refused 0 ENOSYS (ByPromise c.in-Refuse.promise)) refl (c.advance.ensures ∙ update-is c.args.system.now.parts c.args.pid at_next_line live.0 live.1) in
    subst (λ t. g.L.Lookup.agrees c.args.system.now.lookup (find_entry t))
    (sym (reported-tree c.args.system.now.parts next c.args.pid (at_next_line live.0) (record { walks = 0; errno = ENOSYS; cause = ByPromise c.in-Refuse.promise }) c.report.new.parts c.report.result reported)) c.requires.agrees
