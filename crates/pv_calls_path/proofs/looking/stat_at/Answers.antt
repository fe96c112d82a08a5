use Rattle.std.proofs.Common.{◌∙◌, refl, ap, sym}
use Rattle.pv_model.specs.Machine.{answer_by_attempt, done, refused, answers_bytes, returns_bytes, status, process_at, find_entry, walk_of}
use Rattle.pv_calls_plain.proofs.OfCallsState.UncountedChanges.{some-at}
use Rattle.pv_calls_path.proofs.StatusCalls.{names-refused, names-reported, stat-walks}
use Rattle.pv_calls_path.proofs.looking.stat_at.Goals as goal

pub returns-in-Ok-clause-performed : goal.returns-in-Ok-clause-performed
returns-in-Ok-clause-performed g c = λ before me at.
    let s = c.args.system.now.parts in
    let bytes = c.status-bytes.ensures ∙ ap (λ t. status t c.in-Ok.node) c.tree.ensures in
    ap (answer_by_attempt before s c.args.pid me)
    (stat-walks s c.args.pid me (walk_of c.args.walk) c.requires.here ∙ c.in-Ok.ensures.finds.found me at (λ n. answers_bytes s 0 (status s.tree n)) ∙ ap (λ bs. done 1 (s, returns_bytes 0 bs)) (sym bytes))
    ∙ c.report_bytes.ensures before s s me c.invariant.ensures.collected

pub returns-in-Ok-clause-agrees : goal.returns-in-Ok-clause-agrees
returns-in-Ok-clause-agrees g c =
    let s = c.args.system.now.parts in
    let new = c.report_bytes.new.parts in
    let me = some-at (process_at s c.args.pid) c.requires.caller.live in
    g.met.L.Lookup.same_answers c.reach_node.new.lookup (find_entry s.tree) (find_entry new.tree) c.in-Ok.ensures.agrees
    (names-reported s c.requires.caller.whole c.args.pid me.0 1 0 c.status-bytes.result new c.report_bytes.result (c.report_bytes.ensures s s s me.0 c.invariant.ensures.collected))

pub returns-in-Err-clause-performed : goal.returns-in-Err-clause-performed
returns-in-Err-clause-performed g c = λ before me at.
    let s = c.args.system.now.parts in
    let r = c.in-Err.refused in
    ap (answer_by_attempt before s c.args.pid me) (stat-walks s c.args.pid me (walk_of c.args.walk) c.requires.here ∙ c.in-Err.ensures.missed me at (λ _ n. answers_bytes s 0 (status s.tree n)))
    ∙ c.report.ensures.reported before s me (refused r.walks r.errno r.cause) refl refl

pub returns-in-Err-clause-agrees : goal.returns-in-Err-clause-agrees
returns-in-Err-clause-agrees g c =
    let s = c.args.system.now.parts in
    let r = c.in-Err.refused in
    let new = c.report.new.parts in
    let me = some-at (process_at s c.args.pid) c.requires.caller.live in
    g.met.L.Lookup.same_answers c.reach_node.new.lookup (find_entry s.tree) (find_entry new.tree) c.in-Err.ensures.agrees
    (names-refused s c.args.pid me.0 r new c.report.result (c.report.ensures.reported s s me.0 (refused r.walks r.errno r.cause) refl refl))
