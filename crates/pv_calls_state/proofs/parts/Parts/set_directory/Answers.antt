-- The new directory is referenced before the old one is released.
use Rattle.std.proofs.Common.{refl, ap, sym, ◌∙◌, arith}
use Rattle.pv_model.specs.Machine.{collect}
use Rattle.pv_procs.specs.OfTree.Holding.{holds_at, collected}
use Rattle.pv_calls_state.specs.Changes.{with_directory}
use Rattle.pv_calls_state.proofs.ReferenceCounting.{one-apart}
use Rattle.pv_calls_state.proofs.ProcessChanges.{started, owned, updated, few-holds, left-held, moved-holds, counted-changed, collected-changed, state-updated}
use Rattle.pv_calls_state.proofs.parts.Parts.set_directory.Goals as goal

pub hold-requires-clause-few : goal.hold-requires-clause-few
hold-requires-clause-few c =
    let p = started c.args.self.now c.self.inside.tree c.self.inside.files c.self.inside.processes c.args.pid c.self.view_is c.requires.whole c.self.invariant c.invariant.ensures c.invariant-2.ensures c.requires.live in
    omega (arith, few-holds c.self.inside.tree c.self.inside.files c.self.inside.processes c.args.pid p.0 p.1 c.args.directory)

pub unreference-requires : goal.unreference-requires
unreference-requires c =
    let p = started c.args.self.now c.self.inside.tree c.self.inside.files c.self.inside.processes c.args.pid c.self.view_is c.requires.whole c.self.invariant c.invariant.ensures c.invariant-2.ensures c.requires.live in
    let own = ap (λ r. r.directory) (sym (owned c.self.inside.tree c.self.inside.files c.self.inside.processes c.args.pid p.0 p.1 c.record.result.now c.record.ensures)) in
    left-held c.self.inside.tree c.self.inside.files c.self.inside.processes c.args.pid p.0 p.1 c.hold.new.self c.hold.new.self c.record.result.now.directory c.args.directory own
    (one-apart (holds_at c.self.inside.tree) (holds_at c.hold.new.self) c.args.directory (sym c.hold.ensures.more) (λ n other. sym (c.hold.ensures.others n other)))

pub invariant_of-self : goal.invariant_of-self
invariant_of-self c =
    let p = started c.args.self.now c.self.inside.tree c.self.inside.files c.self.inside.processes c.args.pid c.self.view_is c.requires.whole c.self.invariant c.invariant.ensures c.invariant-2.ensures c.requires.live in
    let own = ap (λ r. r.directory) (sym (owned c.self.inside.tree c.self.inside.files c.self.inside.processes c.args.pid p.0 p.1 c.record.result.now c.record.ensures)) in
    let holds = moved-holds c.self.inside.tree c.self.inside.files c.self.inside.processes c.args.pid p.0 p.1 c.unreference.new.self c.hold.new.self c.record.result.now.directory c.args.directory own
    (one-apart (holds_at c.self.inside.tree) (holds_at c.hold.new.self) c.args.directory (sym c.hold.ensures.more) (λ n other. sym (c.hold.ensures.others n other)))
    (one-apart (holds_at c.unreference.new.self) (holds_at c.hold.new.self) c.record.result.now.directory c.unreference.ensures.less c.unreference.ensures.others) in
    counted-changed c.self.inside.tree c.self.inside.files c.self.inside.processes c.args.pid p.0 p.1 c.unreference.new.self c.self.inside.files c.put_directory.new.processes (with_directory c.args.directory p.0)
    (c.put_directory.ensures ∙ updated c.self.inside.tree c.self.inside.files c.self.inside.processes c.args.pid p.0 p.1 (with_directory c.args.directory)) (λ k. refl) holds

pub returns : goal.returns
returns c =
    let p = started c.args.self.now c.self.inside.tree c.self.inside.files c.self.inside.processes c.args.pid c.self.view_is c.requires.whole c.self.invariant c.invariant.ensures c.invariant-2.ensures c.requires.live in
    let own = ap (λ r. r.directory) (sym (owned c.self.inside.tree c.self.inside.files c.self.inside.processes c.args.pid p.0 p.1 c.record.result.now c.record.ensures)) in
    let holds = moved-holds c.self.inside.tree c.self.inside.files c.self.inside.processes c.args.pid p.0 p.1 c.unreference.new.self c.hold.new.self c.record.result.now.directory c.args.directory own
    (one-apart (holds_at c.self.inside.tree) (holds_at c.hold.new.self) c.args.directory (sym c.hold.ensures.more) (λ n other. sym (c.hold.ensures.others n other)))
    (one-apart (holds_at c.unreference.new.self) (holds_at c.hold.new.self) c.record.result.now.directory c.unreference.ensures.less c.unreference.ensures.others) in
    collected-changed c.self.inside.tree c.self.inside.files c.self.inside.processes c.args.pid p.0 p.1 c.unreference.new.self c.self.inside.files c.put_directory.new.processes (with_directory c.args.directory p.0)
    (c.put_directory.ensures ∙ updated c.self.inside.tree c.self.inside.files c.self.inside.processes c.args.pid p.0 p.1 (with_directory c.args.directory)) (λ k. refl) holds
    c.self.inside.tree.tree c.self.inside.files.files c.invariant-2.ensures c.invariant-2.ensures.slots
    (c.unreference.ensures.tree ∙ ap (λ hs. collected c.hold.new.self.tree hs) (sym c.unreference.ensures.holds) ∙ ap (λ x. collected x c.unreference.new.self.holds) c.hold.ensures.tree)
    (λ k used. refl)
    ∙ ap collect (state-updated c.self.inside.tree c.self.inside.files c.self.inside.processes c.args.pid p.0 p.1 c.args.self.now (with_directory c.args.directory) c.self.view_is)
