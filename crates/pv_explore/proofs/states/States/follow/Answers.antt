use Rattle.std.proofs.Common.{IfSome, List, map, Option, subst, sym}
use Rattle.std.specs.Global.{Vec}
use Rattle.pv_explore.specs.VisitedStates.{HasNumber, IsFoundIn, IsRecalled}
use Rattle.pv_explore.specs.Plan.{state_key}
use Rattle.pv_explore.specs.Rows.{state_bytes}
use Rattle.pv_explore.proofs.VisitedStates.{fine-placed, found-bytes, recalled-at, some-live}
use Rattle.pv_step_cache.specs.declared.cells.Cell.{Cell}
use Rattle.pv_step_cache.specs.declared.steps.Recalled.{Recalled}
use Rattle.pv_step_cache.specs.Steps.{texts_in}
use Rattle.pv_step_cache.proofs.OfLawsRuns.ProgramRanges.{program_of-encodes}
use Rattle.pv_laws_states.proofs.ValidBySteps.{step-keeps_valid}
use Rattle.pv_model.specs.Machine.{Bytes, program_of}
use Rattle.pv_step_lines.specs.OfSession.Running.{stepped}
use Rattle.pv_explore.proofs.states.States.follow.Goals as goal

pub invariant_of-self : goal.invariant_of-self
invariant_of-self g c =
    let t = c.requires.0 in
    let whole = c.requires.1 in
    let number = c.requires.2 in
    let parts = c.self.inside.parts in
    let groups = c.self.inside.groups in
    let rows = c.self.inside.rows in
    let cells = c.self.inside.cells.items in
    let steps = c.self.inside.steps.steps.items in
    let pid = c.args.pid in
    let cs = c.in-Some.made.cells in
    let was = subst (λ (o : Option Recalled). IfSome o (λ r. IsRecalled c.deref.result.now steps c.args.number pid (texts_in r.texts.value.items) r.cells.items)) c.in-Some.is c.in_ok-made.ensures in
    let recalled = subst (λ (all : List (Vec Cell)). IsRecalled all steps c.args.number pid (texts_in c.in-Some.made.texts.value.items) cs.items) c.deref.ensures.value was in
    let there = subst (λ (keys : List Bytes). HasNumber keys c.args.number t) (sym c.self.view_is) number in
    let again = recalled-at parts groups rows cells steps c.self.invariant g.met.O.Observer.depends_on_seen c.args.number pid (texts_in c.in-Some.made.texts.value.items) cs.items recalled t whole there in
    fine-placed parts groups rows cells steps c.self.invariant (stepped t pid).after cs again.cells_are c.place.new.rows c.place.new.all.items c.place.ensures.placed

pub invariant_of-self-2 : goal.invariant_of-self-2
invariant_of-self-2 g c =
    let t = c.requires.0 in
    let whole = c.requires.1 in
    let number = c.requires.2 in
    let parts = c.self.inside.parts in
    let groups = c.self.inside.groups in
    let rows = c.self.inside.rows in
    let cells = c.self.inside.cells.items in
    let steps = c.self.inside.steps.steps.items in
    let pid = c.args.pid in
    let cs = c.in-Some.made.cells in
    let was = subst (λ (o : Option Recalled). IfSome o (λ r. IsRecalled c.deref.result.now steps c.args.number pid (texts_in r.texts.value.items) r.cells.items)) c.in-Some.is c.in_ok-made.ensures in
    let recalled = subst (λ (all : List (Vec Cell)). IsRecalled all steps c.args.number pid (texts_in c.in-Some.made.texts.value.items) cs.items) c.deref.ensures.value was in
    let there = subst (λ (keys : List Bytes). HasNumber keys c.args.number t) (sym c.self.view_is) number in
    let again = recalled-at parts groups rows cells steps c.self.invariant g.met.O.Observer.depends_on_seen c.args.number pid (texts_in c.in-Some.made.texts.value.items) cs.items recalled t whole there in
    fine-placed parts groups rows cells steps c.self.invariant (stepped t pid).after cs again.cells_are c.place.new.rows c.place.new.all.items c.place.ensures.placed

pub returns : goal.returns
returns g c = λ t whole number.
    let parts = c.self.inside.parts in
    let groups = c.self.inside.groups in
    let rows = c.self.inside.rows in
    let cells = c.self.inside.cells.items in
    let steps = c.self.inside.steps.steps.items in
    let pid = c.args.pid in
    let cs = c.in-Some.made.cells in
    let was = subst (λ (o : Option Recalled). IfSome o (λ r. IsRecalled c.deref.result.now steps c.args.number pid (texts_in r.texts.value.items) r.cells.items)) c.in-Some.is c.in_ok-made.ensures in
    let recalled = subst (λ (all : List (Vec Cell)). IsRecalled all steps c.args.number pid (texts_in c.in-Some.made.texts.value.items) cs.items) c.deref.ensures.value was in
    let there = subst (λ (keys : List Bytes). HasNumber keys c.args.number t) (sym c.self.view_is) number in
    let again = recalled-at parts groups rows cells steps c.self.invariant g.met.O.Observer.depends_on_seen c.args.number pid (texts_in c.in-Some.made.texts.value.items) cs.items recalled t whole there in
    let u = (stepped t pid).after in
    let found = found-bytes parts groups rows cells steps c.self.invariant u cs again.cells_are c.args.limit c.place.new.rows c.in_ok-found.found c.in_ok-found.ensures.found in
    record {
      texts_are = again.texts_are;
      live = some-live parts groups u cs.items again.cells_are (step-keeps_valid program_of program_of-encodes t pid whole) recalled.live;
      found_is = subst (λ (keys : List Bytes). IsFoundIn c.args.limit keys (map (state_bytes parts groups) c.place.new.rows) (state_key u) c.in_ok-found.found) c.self.view_is found;
    }
