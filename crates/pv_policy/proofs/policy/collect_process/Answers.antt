use Rattle.std.proofs.Common.{◌≡◌, ◌∙◌, ap, inl, inr, is_some, refl, subst, sym}
use Rattle.pv_model.specs.Machine.{answer, Found, call_of, program_of}
use Rattle.pv_procs.specs.ProcessTable.{ProcessTable, process_in}
use Rattle.pv_procs.specs.Turns.{CallsNext, IsFetched}
use Rattle.pv_policy.specs.Usage.{and_call, and_calls, noted_by, request_of}
use Rattle.pv_policy.proofs.CollectedCalls.{calls-called, calls-left, calls-none, counted-walks}
use Rattle.pv_policy.proofs.policy.collect_process.Goals as goal

pub returns-in-Register : goal.returns-in-Register
returns-in-Register c =
    let pid = c.args.pid in
    let f : Found = record { witness = c.args.witness.now; state = c.args.parts.now } in
    let fetched = subst (λ (ps : ProcessTable). IsFetched c.fetch.result (process_in ps pid)) c.processes.ensures c.fetch.ensures in
    record { unchanged = refl; collected = ap (and_calls c.args.programs.now.items) (calls-none c.args.granted f pid c.fetch.result (inl c.in-Register.is) fetched) }

pub returns-in-Gone : goal.returns-in-Gone
returns-in-Gone c =
    let pid = c.args.pid in
    let f : Found = record { witness = c.args.witness.now; state = c.args.parts.now } in
    let fetched = subst (λ (ps : ProcessTable). IsFetched c.fetch.result (process_in ps pid)) c.processes.ensures c.fetch.ensures in
    record { unchanged = refl; collected = ap (and_calls c.args.programs.now.items) (calls-none c.args.granted f pid c.fetch.result (inr c.in-Gone.is) fetched) }

pub returns-in_default-clause-collected : goal.returns-in_default-clause-collected
returns-in_default-clause-collected c =
    let pid = c.args.pid in
    let f : Found = record { witness = c.args.witness.now; state = c.args.parts.now } in
    let call = call_of c.in-Call.call in
    let comes = subst (λ (ps : ProcessTable). CallsNext c.in-Call.call (process_in ps pid)) c.processes.ensures c.in-Call.ensures in
    let none = sym (c.in_ok-walks-in-Call.ensures.walks f comes.0 call c.requires.at comes.1 comes.2) ∙ c.in_default.is in
    ap (and_calls c.args.programs.now.items) (calls-left c.args.granted f pid comes.0 call comes.1 comes.2 none)

pub note_call-requires-clause-live : goal.note_call-requires-clause-live
note_call-requires-clause-live c =
    let comes = subst (λ (ps : ProcessTable). CallsNext c.in-Call.call (process_in ps c.args.pid)) c.processes.ensures c.in-Call.ensures in
    ap is_some comes.1

pub returns-in_ok-note_call-in-Call : goal.returns-in_ok-note_call-in-Call
returns-in_ok-note_call-in-Call c =
    let s = c.args.parts.now in
    let pid = c.args.pid in
    let programs = c.args.programs.now.items in
    let f : Found = record { witness = c.args.witness.now; state = s } in
    let call = call_of c.in-Call.call in
    let comes = subst (λ (ps : ProcessTable). CallsNext c.in-Call.call (process_in ps pid)) c.processes.ensures c.in-Call.ensures in
    let counted = sym (c.in_ok-walks-in-Call.ensures.walks f comes.0 call c.requires.at comes.1 comes.2) ∙ c.in-Some.is in
    record {
      unchanged = c.walks_at.ensures.unchanged;
      collected =
          c.in_ok-note_call-in-Call.ensures comes.0 comes.1 (counted-walks c.args.granted (answer program_of s pid call) c.in-Some.walks counted)
          ∙ ap (λ by. and_call programs (noted_by by pid (request_of s pid comes.0 call))) (c.deref.ensures.value ∙ c.in_ok-by-in-Call.ensures)
          ∙ ap (and_calls programs) (calls-called c.args.granted f pid comes.0 call comes.1 comes.2 c.in-Some.walks counted);
    }
