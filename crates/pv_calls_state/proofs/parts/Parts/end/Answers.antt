-- Each user and each reference of the process is removed once.
use Rattle.std.proofs.Common.{ap, sym, ◌∙◌, arith}
use Rattle.pv_procs.specs.OfTree.Holding.{holds_at, collected}
use Rattle.pv_procs.specs.declared.record.ProcessRecord.{ProcessRecord as Owned}
use Rattle.pv_calls_state.specs.Counts.{times}
use Rattle.pv_calls_state.specs.Releasing.{files_on}
use Rattle.pv_calls_state.proofs.ReferenceCounting.{one-apart}
use Rattle.pv_calls_state.proofs.ProcessChanges.{before, started, owned}
use Rattle.pv_calls_state.proofs.ProcessEnds.{then-nodes, end-used, end-targets, end-directory, end-holds, ended-up, ended-state}
use Rattle.pv_calls_state.proofs.parts.Parts.end.Goals as goal

pub release_all-requires-clause-used : goal.release_all-requires-clause-used
release_all-requires-clause-used c =
    let p = started c.args.self.now c.self.inside.tree c.self.inside.files c.self.inside.processes c.args.pid c.self.view_is c.requires.whole c.self.invariant c.invariant.ensures c.invariant-2.ensures c.requires.live in
    let own = owned c.self.inside.tree c.self.inside.files c.self.inside.processes c.args.pid p.0 p.1 c.record-record.result.now c.record-record.ensures in
    end-used c.self.inside.tree c.self.inside.files c.self.inside.processes c.args.pid p.0 p.1 c.record-record.result.now own

pub unreference_targets-requires : goal.unreference_targets-requires
unreference_targets-requires c =
    let p = started c.args.self.now c.self.inside.tree c.self.inside.files c.self.inside.processes c.args.pid c.self.view_is c.requires.whole c.self.invariant c.invariant.ensures c.invariant-2.ensures c.requires.live in
    let own = owned c.self.inside.tree c.self.inside.files c.self.inside.processes c.args.pid p.0 p.1 c.record-record.result.now c.record-record.ensures in
    end-targets c.self.inside.tree c.self.inside.files c.self.inside.processes c.args.pid p.0 p.1 c.record-record.result.now own c.release_all.new.tree c.release_all.new.files c.release_all.ensures.holds

pub unreference-requires : goal.unreference-requires
unreference-requires c =
    let p = started c.args.self.now c.self.inside.tree c.self.inside.files c.self.inside.processes c.args.pid c.self.view_is c.requires.whole c.self.invariant c.invariant.ensures c.invariant-2.ensures c.requires.live in
    let own = owned c.self.inside.tree c.self.inside.files c.self.inside.processes c.args.pid p.0 p.1 c.record-record.result.now c.record-record.ensures in
    end-directory c.self.inside.tree c.self.inside.files c.self.inside.processes c.args.pid p.0 p.1 c.record-record.result.now own c.release_all.new.tree c.release_all.new.files c.release_all.ensures.holds c.unreference_targets.new.tree c.unreference_targets.ensures

pub invariant_of-self : goal.invariant_of-self
invariant_of-self c =
    let p = started c.args.self.now c.self.inside.tree c.self.inside.files c.self.inside.processes c.args.pid c.self.view_is c.requires.whole c.self.invariant c.invariant.ensures c.invariant-2.ensures c.requires.live in
    let own = owned c.self.inside.tree c.self.inside.files c.self.inside.processes c.args.pid p.0 p.1 c.record-record.result.now c.record-record.ensures in
    let gone = c.release_all.ensures in
    ended-up c.self.inside.tree c.self.inside.files c.self.inside.processes c.args.pid p.0 p.1 c.unreference.new.self c.release_all.new.files c.end.new.self c.args.status (c.end.ensures c.self.inside.tree.tree c.self.inside.files.files p.0 p.1.at)
    (λ k. omega (arith, gone.users k, ap (λ (x : Owned). times k (files_on x.descriptors)) own))
    (end-holds c.self.inside.tree c.self.inside.files c.self.inside.processes c.args.pid p.0 p.1 c.record-record.result.now own c.release_all.new.tree c.release_all.new.files gone.holds c.unreference_targets.new.tree c.unreference.new.self c.unreference_targets.ensures
    (one-apart (holds_at c.unreference.new.self) (holds_at c.unreference_targets.new.tree) c.record-record.result.now.directory c.unreference.ensures.less c.unreference.ensures.others))

pub returns : goal.returns
returns c me at =
    let is = before c.args.self.now c.self.inside.tree c.self.inside.files c.self.inside.processes c.args.pid me c.self.view_is c.requires.whole c.self.invariant c.invariant.ensures c.invariant-2.ensures at in
    let own = owned c.self.inside.tree c.self.inside.files c.self.inside.processes c.args.pid me is c.record-record.result.now c.record-record.ensures in
    let gone = c.release_all.ensures in
    let last = (one-apart (holds_at c.unreference.new.self) (holds_at c.unreference_targets.new.tree) c.record-record.result.now.directory c.unreference.ensures.less c.unreference.ensures.others) in
    let went = c.unreference_targets.ensures in
    let first = then-nodes c.self.inside.tree c.release_all.new.tree c.unreference_targets.new.tree c.invariant.ensures gone.nodes went.nodes (λ n. omega (arith, went.holds n)) in
    ended-state c.self.inside.tree c.self.inside.files c.self.inside.processes c.args.pid me is c.unreference.new.self c.release_all.new.files c.end.new.self c.args.status (c.end.ensures c.self.inside.tree.tree c.self.inside.files.files me is.at)
    (λ k. omega (arith, gone.users k, ap (λ (x : Owned). times k (files_on x.descriptors)) own))
    (end-holds c.self.inside.tree c.self.inside.files c.self.inside.processes c.args.pid me is c.record-record.result.now own c.release_all.new.tree c.release_all.new.files gone.holds c.unreference_targets.new.tree c.unreference.new.self c.unreference_targets.ensures
    (one-apart (holds_at c.unreference.new.self) (holds_at c.unreference_targets.new.tree) c.record-record.result.now.directory c.unreference.ensures.less c.unreference.ensures.others))
    c.args.self.now c.self.view_is c.invariant-3.ensures
    (then-nodes c.self.inside.tree c.unreference_targets.new.tree c.unreference.new.self c.invariant.ensures first
    (c.unreference.ensures.tree ∙ ap (λ hs. collected c.unreference_targets.new.tree.tree hs) (sym c.unreference.ensures.holds)) (λ n. omega (arith, last n)))
    gone.files
