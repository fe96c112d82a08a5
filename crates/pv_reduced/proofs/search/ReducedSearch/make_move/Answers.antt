use Rattle.std.proofs.Common.{◌∙◌, ap, List, refl, ℕ}
use Rattle.std.specs.Global.{Vec}
use Rattle.pv_streams.proofs.WriterContracts.{or_as}
use Rattle.pv_reduced.proofs.ReducedSearchSteps.{bytes-is, visited-at-is, visited-is}
use Rattle.pv_streams.proofs.StoppedWriters.{no_memory, no_memory_after, still_ok, stopped}
use Rattle.pv_explore.specs.Plan.{reported_after, reported_bytes}
use Rattle.pv_reduced.specs.Plan.{ReducedVisited}
use Rattle.pv_reduced.specs.Searches.{reduced_visited_of, reduced_witness_at}
use Rattle.pv_explore.specs.Witnesses.{longer}
use Rattle.pv_laws_classes.specs.Reduced.{bound_by}
use Rattle.pv_model.specs.Machine.{State}
use Rattle.pv_explore.specs.OfSession.Running.{stepped}
use Rattle.pv_explore.specs.OfStepCache.Steps.{texts_in}
use Rattle.pv_reduced.proofs.search.ReducedSearch.make_move.Goals as goal

pub returns-in_err-position-clause-written : goal.returns-in_err-position-clause-written
returns-in_err-position-clause-written g c = no_memory c.from_residual.ensures.1

pub returns-in_err-report-clause-written : goal.returns-in_err-report-clause-written
returns-in_err-report-clause-written g c =
    let old = reduced_visited_of c.args.self.now in
    let long = longer old.witnesses c.args.number c.args.pid in
    let texts_are = ap (λ (ts : List (Vec ℕ)). texts_in ts) c.deref.ensures.value ∙ c.in_ok-position.ensures.texts in
    let is = ap (reported_bytes old.reported c.args.pid long) texts_are
    ∙ bytes-is g.O.Observer.observe c.args.limit c.args.checkpoints.now c.args.from (reduced_witness_at old c.args.number) long c.args.pid refl c.requires.at old in
    stopped c.from_residual-in_err-report.ensures.1 (or_as is c.in_err-report.ensures.written)

pub returns-in_err-visit-clause-written : goal.returns-in_err-visit-clause-written
returns-in_err-visit-clause-written g c =
    let old = reduced_visited_of c.args.self.now in
    let long = longer old.witnesses c.args.number c.args.pid in
    let texts_are = ap (λ (ts : List (Vec ℕ)). texts_in ts) c.deref.ensures.value ∙ c.in_ok-position.ensures.texts in
    let is = ap (reported_bytes old.reported c.args.pid long) texts_are
    ∙ bytes-is g.O.Observer.observe c.args.limit c.args.checkpoints.now c.args.from (reduced_witness_at old c.args.number) long c.args.pid refl c.requires.at old in
    no_memory_after c.from_residual-in_err-visit.ensures.1 (or_as is c.in_ok-report.ensures.written)

pub returns-clause-written : goal.returns-clause-written
returns-clause-written g c =
    let old = reduced_visited_of c.args.self.now in
    let long = longer old.witnesses c.args.number c.args.pid in
    let texts_are = ap (λ (ts : List (Vec ℕ)). texts_in ts) c.deref.ensures.value ∙ c.in_ok-position.ensures.texts in
    let is = ap (reported_bytes old.reported c.args.pid long) texts_are
    ∙ bytes-is g.O.Observer.observe c.args.limit c.args.checkpoints.now c.args.from (reduced_witness_at old c.args.number) long c.args.pid refl c.requires.at old in
    still_ok (or_as is c.in_ok-report.ensures.written)

pub returns-clause-visited : goal.returns-clause-visited
returns-clause-visited g c =
    let old = reduced_visited_of c.args.self.now in
    let long = longer old.witnesses c.args.number c.args.pid in
    let from = c.args.from in
    let texts = g.O.Observer.observe from c.args.pid (stepped from c.args.pid) in
    let texts_are = ap (λ (ts : List (Vec ℕ)). texts_in ts) c.deref.ensures.value ∙ c.in_ok-position.ensures.texts in
    let now : ReducedVisited = record old { reported = c.report.new.reported } in
    let bound = c.bound_by-bound.result in
    let bound_is = c.bound_by-bound.ensures ∙ ap (λ (t : State). bound_by t c.args.pid) c.parts.ensures.value in
    visited-is c.args.limit old now (reduced_visited_of c.visit.new.self) bound long c.args.pid from texts c.report.new.reported c.in_ok-position.field-0.position
    c.in_ok-position.ensures.after (c.in_ok-report.ensures.reported ∙ ap (reported_after c.args.self.now.reported) texts_are) refl c.in_ok-visit.ensures
    ∙ visited-at-is g.O.Observer.observe c.args.limit c.args.checkpoints.now from (reduced_witness_at old c.args.number) long c.args.pid refl c.requires.at old bound bound_is
