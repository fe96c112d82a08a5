use Rattle.std.proofs.Common.{◌≡◌, ◌∙◌, ◌≤◌, true, false, length, refl, ap, ap₂, sym, subst}
use Rattle.pv_namei.specs.OfDirs.Trees.{node_bytes_at}
use Rattle.pv_model.specs.declared.errno.Errno.TheVariants.{EINVAL}
use Rattle.pv_model.specs.declared.outcome.Cause.TheVariants.{Plain}
use Rattle.pv_model.specs.Machine.{answer_by_attempt, done, refused, is_link, returns_bytes, process_at, find_entry, node_at}
use Rattle.pv_calls_plain.proofs.OfCallsState.UncountedChanges.{some-at}
use Rattle.pv_calls_path.proofs.StatusCalls.{link_rest, names-refused, names-reported, readlink-is, readlink-not, text-short, whole-text}
use Rattle.pv_calls_path.proofs.CheckedWalks.{found-as, missed-as}
use Rattle.pv_calls_path.proofs.looking.readlink.Goals as goal

pub returns-in-Err-clause-performed : goal.returns-in-Err-clause-performed
returns-in-Err-clause-performed g c = λ before me at.
    let s = c.args.system.now.parts in
    let r = c.in-Err.refused in
    ap (answer_by_attempt before s c.args.pid me) (missed-as s me me.directory c.readlink-walk.ensures r (c.in-Err.ensures.missed me at) (λ _. link_rest s))
    ∙ c.report.ensures.reported before s me (refused r.walks r.errno r.cause) refl refl

pub returns-in-Err-clause-agrees : goal.returns-in-Err-clause-agrees
returns-in-Err-clause-agrees g c =
    let s = c.args.system.now.parts in
    let r = c.in-Err.refused in
    let new = c.report.new.parts in
    let me = some-at (process_at s c.args.pid) c.requires.caller.live in
    g.met.L.Lookup.same_answers c.reach_node.new.lookup (find_entry s.tree) (find_entry new.tree) c.in-Err.ensures.agrees
    (names-refused s c.args.pid me.0 r new c.report.result (c.report.ensures.reported s s me.0 (refused r.walks r.errno r.cause) refl refl))

pub returns-then-not-is_link-clause-performed : goal.returns-then-not-is_link-clause-performed
returns-then-not-is_link-clause-performed g c = λ before me at.
    let s = c.args.system.now.parts in
    let n = c.in-Ok.node in
    let other : is_link (node_at s.tree n) ≡ false = ap (λ t. is_link (node_at t n)) (sym c.tree.ensures) ∙ sym c.is_link.ensures ∙ c.if-not-is_link.true in
    ap (answer_by_attempt before s c.args.pid me) (readlink-not s c.args.pid me c.args.path.now n (found-as s me me.directory c.readlink-walk.ensures n (c.in-Ok.ensures.finds.found me at)) other)
    ∙ c.report-then-not-is_link.ensures.reported before s me (refused 1 EINVAL Plain) (rw c.refusal.ensures refl) refl

pub returns-then-not-is_link-clause-agrees : goal.returns-then-not-is_link-clause-agrees
returns-then-not-is_link-clause-agrees g c =
    let s = c.args.system.now.parts in
    let r = c.refusal.result in
    let new = c.report-then-not-is_link.new.parts in
    let me = some-at (process_at s c.args.pid) c.requires.caller.live in
    g.met.L.Lookup.same_answers c.reach_node.new.lookup (find_entry s.tree) (find_entry new.tree) c.in-Ok.ensures.agrees
    (names-refused s c.args.pid me.0 r new c.report-then-not-is_link.result
    (c.report-then-not-is_link.ensures.reported s s me.0 (refused r.walks r.errno r.cause) refl refl))

pub returns-clause-performed : goal.returns-clause-performed
returns-clause-performed g c = λ before me at.
    let s = c.args.system.now.parts in
    let n = c.in-Ok.node in
    let link : is_link (node_at s.tree n) ≡ true = ap (λ t. is_link (node_at t n)) (sym c.tree.ensures) ∙ sym c.is_link.ensures ∙ c.if-not-is_link.false in
    let short = subst (λ t. length (node_bytes_at t n) ≤ 1023) (sym c.tree-2.ensures) (text-short s c.requires.caller.whole n link) in
    let read = whole-text c.read_at-length.result (node_bytes_at c.tree-2.result.now.tree n) _ c.read_at-length.new.buffer short refl c.read_at-length.ensures.count c.read_at-length.ensures.bytes in
    let same = ap (λ t. node_bytes_at t n) c.tree-2.ensures in
    ap (answer_by_attempt before s c.args.pid me)
    (readlink-is s c.args.pid me c.args.path.now n (found-as s me me.directory c.readlink-walk.ensures n (c.in-Ok.ensures.finds.found me at)) link
    ∙ ap₂ (λ k bs. done 1 (s, returns_bytes k bs)) (ap length (sym same) ∙ sym read.0) (sym same ∙ sym read.1))
    ∙ c.report_bytes.ensures before s s me c.invariant.ensures.collected

pub returns-clause-agrees : goal.returns-clause-agrees
returns-clause-agrees g c =
    let s = c.args.system.now.parts in
    let new = c.report_bytes.new.parts in
    let me = some-at (process_at s c.args.pid) c.requires.caller.live in
    g.met.L.Lookup.same_answers c.reach_node.new.lookup (find_entry s.tree) (find_entry new.tree) c.in-Ok.ensures.agrees
    (names-reported s c.requires.caller.whole c.args.pid me.0 1 _ _ new c.report_bytes.result (c.report_bytes.ensures s s s me.0 c.invariant.ensures.collected))
