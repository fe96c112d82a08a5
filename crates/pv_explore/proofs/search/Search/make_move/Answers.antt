use Rattle.std.proofs.Common.{◌∙◌, ap, List, Option, subst, ℕ}
use Rattle.std.specs.Global.{Vec}
use Rattle.pv_streams.proofs.WriterContracts.{or_as}
use Rattle.pv_streams.proofs.StoppedWriters.{no_memory, no_memory_after, still_ok, stopped}
use Rattle.pv_explore.specs.declared.states.Followed.{Followed}
use Rattle.pv_explore.specs.VisitedStates.{MayFollow}
use Rattle.pv_explore.specs.Plan.{reported_after, reported_bytes, state_at}
use Rattle.pv_explore.specs.Searches.{visited_of, witness_at}
use Rattle.pv_explore.specs.Witnesses.{longer}
use Rattle.pv_explore.proofs.CachedFollowing.{visited-followed, valid-at}
use Rattle.pv_model.specs.Machine.{program_of}
use Rattle.pv_step_cache.specs.Steps.{texts_in}
use Rattle.pv_explore.proofs.search.Search.make_move.Goals as goal

pub follow-requires : goal.follow-requires
follow-requires g c =
    let s = c.args.checkpoints.now in
    let witness = witness_at (visited_of c.args.self.now) c.args.number in
    (state_at program_of s witness, valid-at s witness c.requires.whole, c.requires.there)

pub returns-in_err-followed-clause-written : goal.returns-in_err-followed-clause-written
returns-in_err-followed-clause-written g c = no_memory c.from_residual.ensures.1

pub returns-in_err-report-clause-written : goal.returns-in_err-report-clause-written
returns-in_err-report-clause-written g c =
    let s = c.args.checkpoints.now in
    let old = visited_of c.args.self.now in
    let witness = witness_at old c.args.number in
    let may = subst (λ (o : Option Followed). MayFollow g.O.Observer.observe c.args.limit c.args.self.now.states c.follow.new.self c.args.number c.args.pid o) c.in-Some.is c.in_ok-followed.ensures in
    let it = may (state_at program_of s witness) (valid-at s witness c.requires.whole) c.requires.there in
    let texts_are = ap (λ (ts : List (Vec ℕ)). texts_in ts) c.deref-2.ensures.value ∙ ap (λ (ts : Vec (Vec ℕ)). texts_in ts.items) c.deref.ensures in
    let is = ap (reported_bytes old.reported c.args.pid (longer old.witnesses c.args.number c.args.pid)) (texts_are ∙ it.texts_are) in
    stopped c.from_residual-in_err-report.ensures.1 (or_as is c.in_err-report.ensures.written)

pub returns-in_err-keep_witness-clause-written : goal.returns-in_err-keep_witness-clause-written
returns-in_err-keep_witness-clause-written g c =
    let s = c.args.checkpoints.now in
    let old = visited_of c.args.self.now in
    let witness = witness_at old c.args.number in
    let may = subst (λ (o : Option Followed). MayFollow g.O.Observer.observe c.args.limit c.args.self.now.states c.follow.new.self c.args.number c.args.pid o) c.in-Some.is c.in_ok-followed.ensures in
    let it = may (state_at program_of s witness) (valid-at s witness c.requires.whole) c.requires.there in
    let texts_are = ap (λ (ts : List (Vec ℕ)). texts_in ts) c.deref-2.ensures.value ∙ ap (λ (ts : Vec (Vec ℕ)). texts_in ts.items) c.deref.ensures in
    let is = ap (reported_bytes old.reported c.args.pid (longer old.witnesses c.args.number c.args.pid)) (texts_are ∙ it.texts_are) in
    no_memory_after c.from_residual-in_err-keep_witness.ensures.1 (or_as is c.in_ok-report.ensures.written)

pub returns-clause-visited : goal.returns-clause-visited
returns-clause-visited g c =
    let s = c.args.checkpoints.now in
    let old = visited_of c.args.self.now in
    let witness = witness_at old c.args.number in
    let t = state_at program_of s witness in
    let long = longer old.witnesses c.args.number c.args.pid in
    let may = subst (λ (o : Option Followed). MayFollow g.O.Observer.observe c.args.limit c.args.self.now.states c.follow.new.self c.args.number c.args.pid o) c.in-Some.is c.in_ok-followed.ensures in
    let it = may t (valid-at s witness c.requires.whole) c.requires.there in
    let texts_are = ap (λ (ts : List (Vec ℕ)). texts_in ts) c.deref-2.ensures.value ∙ ap (λ (ts : Vec (Vec ℕ)). texts_in ts.items) c.deref.ensures in
    visited-followed g.O.Observer.observe c.args.limit old (visited_of c.keep_witness.new.self) long c.args.pid t (texts_in c.in-Some.followed.texts.value.items) c.follow.new.self c.report.new.reported c.in-Some.followed.found it
    (c.in_ok-report.ensures.reported ∙ ap (reported_after old.reported) texts_are) c.in_ok-keep_witness.ensures

pub returns-clause-written : goal.returns-clause-written
returns-clause-written g c =
    let s = c.args.checkpoints.now in
    let old = visited_of c.args.self.now in
    let witness = witness_at old c.args.number in
    let may = subst (λ (o : Option Followed). MayFollow g.O.Observer.observe c.args.limit c.args.self.now.states c.follow.new.self c.args.number c.args.pid o) c.in-Some.is c.in_ok-followed.ensures in
    let it = may (state_at program_of s witness) (valid-at s witness c.requires.whole) c.requires.there in
    let texts_are = ap (λ (ts : List (Vec ℕ)). texts_in ts) c.deref-2.ensures.value ∙ ap (λ (ts : Vec (Vec ℕ)). texts_in ts.items) c.deref.ensures in
    let is = ap (reported_bytes old.reported c.args.pid (longer old.witnesses c.args.number c.args.pid)) (texts_are ∙ it.texts_are) in
    still_ok (or_as is c.in_ok-report.ensures.written)
