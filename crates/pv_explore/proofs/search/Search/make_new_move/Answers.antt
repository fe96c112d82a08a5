use Rattle.std.proofs.Common.{◌≡◌, ◌∙◌, ap, List, subst, sym, ℕ}
use Rattle.std.specs.Global.{Vec}
use Rattle.pv_streams.proofs.WriterContracts.{or_as}
use Rattle.pv_streams.proofs.StoppedWriters.{no_memory, no_memory_after, still_ok, stopped}
use Rattle.pv_explore.specs.Plan.{Visited, reported_after, reported_bytes}
use Rattle.pv_explore.specs.Searches.{visited_of}
use Rattle.pv_explore.specs.VisitedStates.{HasNumber}
use Rattle.pv_explore.specs.Witnesses.{longer}
use Rattle.pv_explore.proofs.SearchSteps.{visited-is}
use Rattle.pv_model.specs.Machine.{Bytes}
use Rattle.pv_step_lines.specs.OfSession.Running.{stepped}
use Rattle.pv_step_cache.specs.Steps.{texts_in}
use Rattle.pv_explore.proofs.search.Search.make_new_move.Goals as goal

pub visit-requires-clause-made : goal.visit-requires-clause-made
visit-requires-clause-made g c = record {
  state = c.args.from;
  whole = c.parts.ensures.whole;
  number_is = subst (λ (keys : List Bytes). HasNumber keys c.args.number c.args.from) (sym c.observe.ensures.unchanged) c.requires.there;
  texts_are = c.in_ok-position.ensures.texts;
  inside_is = c.in_ok-position.ensures.inside;
  after_is = c.in_ok-position.ensures.after;
}

pub returns-in_err-position-clause-written : goal.returns-in_err-position-clause-written
returns-in_err-position-clause-written g c = no_memory c.from_residual.ensures.1

pub returns-in_err-report-clause-written : goal.returns-in_err-report-clause-written
returns-in_err-report-clause-written g c =
    let texts_are = ap (λ (ts : List (Vec ℕ)). texts_in ts) c.deref.ensures.value ∙ c.in_ok-position.ensures.texts in
    let is = ap (reported_bytes c.args.self.now.reported c.args.pid (longer (visited_of c.args.self.now).witnesses c.args.number c.args.pid)) texts_are in
    stopped c.from_residual-in_err-report.ensures.1 (or_as is c.in_err-report.ensures.written)

pub returns-in_err-visit-clause-written : goal.returns-in_err-visit-clause-written
returns-in_err-visit-clause-written g c =
    let texts_are = ap (λ (ts : List (Vec ℕ)). texts_in ts) c.deref.ensures.value ∙ c.in_ok-position.ensures.texts in
    let is = ap (reported_bytes c.args.self.now.reported c.args.pid (longer (visited_of c.args.self.now).witnesses c.args.number c.args.pid)) texts_are in
    no_memory_after c.from_residual-in_err-visit.ensures.1 (or_as is c.in_ok-report.ensures.written)

pub returns-clause-written : goal.returns-clause-written
returns-clause-written g c =
    let texts_are = ap (λ (ts : List (Vec ℕ)). texts_in ts) c.deref.ensures.value ∙ c.in_ok-position.ensures.texts in
    let is = ap (reported_bytes c.args.self.now.reported c.args.pid (longer (visited_of c.args.self.now).witnesses c.args.number c.args.pid)) texts_are in
    still_ok (or_as is c.in_ok-report.ensures.written)

pub returns-clause-visited : goal.returns-clause-visited
returns-clause-visited g c =
    let old = visited_of c.args.self.now in
    let texts = g.O.Observer.observe c.args.from c.args.pid (stepped c.args.from c.args.pid) in
    let texts_are = ap (λ (ts : List (Vec ℕ)). texts_in ts) c.deref.ensures.value ∙ c.in_ok-position.ensures.texts in
    let now : Visited = record old { keys = c.observe.new.self; reported = c.report.new.reported } in
    let is : now ≡ record old { reported = c.report.new.reported } = ap (λ (keys : List Bytes). record old { keys = keys; reported = c.report.new.reported }) c.observe.ensures.unchanged in
    visited-is c.args.limit old now (visited_of c.visit.new.self) (longer (visited_of c.args.self.now).witnesses c.args.number c.args.pid) c.args.pid c.args.from texts c.report.new.reported c.in_ok-position.field-0.position
    c.in_ok-position.ensures.after (c.in_ok-report.ensures.reported ∙ ap (reported_after c.args.self.now.reported) texts_are) is c.in_ok-visit.ensures
