-- The child has the users and references of its parent.
use Rattle.std.proofs.Common.{refl, sym, subst, ◌∙◌}
use Rattle.std.specs.Prelude.{IsSome}
use Rattle.pv_procs.specs.OfTree.Holding.{holds_at}
use Rattle.pv_calls_state.proofs.ReferenceCounting.{one-apart}
use Rattle.pv_calls_state.proofs.ProcessChanges.{before, started}
use Rattle.pv_calls_state.proofs.ProcessEnds.{born, child-owned, child-there, child-few, child-targets, child-room, child-opened, child-users, forked-up, fork-performed}
use Rattle.pv_calls_state.proofs.parts.Parts.fork.Goals as goal

pub record-record-requires : goal.record-record-requires
record-record-requires c =
    let p = started c.args.self.now c.self.inside.tree c.self.inside.files c.self.inside.processes c.args.pid c.self.view_is c.requires.whole c.self.invariant c.invariant.ensures c.invariant-2.ensures c.requires.live in
    let answer = c.in_ok-child.ensures.forked c.self.inside.tree.tree c.self.inside.files.files p.0 p.1.at in
    subst (λ o. IsSome o) (sym (born c.self.inside.tree c.self.inside.files c.self.inside.processes c.args.pid p.0 p.1 c.fork.new.self c.in_ok-child.child answer)) refl

pub hold-requires-clause-node : goal.hold-requires-clause-node
hold-requires-clause-node c =
    let p = started c.args.self.now c.self.inside.tree c.self.inside.files c.self.inside.processes c.args.pid c.self.view_is c.requires.whole c.self.invariant c.invariant.ensures c.invariant-2.ensures c.requires.live in
    let answer = c.in_ok-child.ensures.forked c.self.inside.tree.tree c.self.inside.files.files p.0 p.1.at in
    let own = child-owned c.self.inside.tree c.self.inside.files c.self.inside.processes c.args.pid p.0 p.1 c.fork.new.self c.in_ok-child.child answer c.record-record.result.now c.record-record.ensures in
    child-there c.self.inside.tree c.self.inside.files c.self.inside.processes c.args.pid p.0 p.1 c.fork.new.self c.in_ok-child.child answer c.record-record.result.now own

pub hold-requires-clause-few : goal.hold-requires-clause-few
hold-requires-clause-few c =
    let p = started c.args.self.now c.self.inside.tree c.self.inside.files c.self.inside.processes c.args.pid c.self.view_is c.requires.whole c.self.invariant c.invariant.ensures c.invariant-2.ensures c.requires.live in
    let answer = c.in_ok-child.ensures.forked c.self.inside.tree.tree c.self.inside.files.files p.0 p.1.at in
    let own = child-owned c.self.inside.tree c.self.inside.files c.self.inside.processes c.args.pid p.0 p.1 c.fork.new.self c.in_ok-child.child answer c.record-record.result.now c.record-record.ensures in
    child-few c.self.inside.tree c.self.inside.files c.self.inside.processes c.args.pid p.0 p.1 c.fork.new.self c.in_ok-child.child answer c.record-record.result.now own

pub hold_targets-requires-clause-there : goal.hold_targets-requires-clause-there
hold_targets-requires-clause-there c =
    let p = started c.args.self.now c.self.inside.tree c.self.inside.files c.self.inside.processes c.args.pid c.self.view_is c.requires.whole c.self.invariant c.invariant.ensures c.invariant-2.ensures c.requires.live in
    let answer = c.in_ok-child.ensures.forked c.self.inside.tree.tree c.self.inside.files.files p.0 p.1.at in
    let own = child-owned c.self.inside.tree c.self.inside.files c.self.inside.processes c.args.pid p.0 p.1 c.fork.new.self c.in_ok-child.child answer c.record-record.result.now c.record-record.ensures in
    child-targets c.self.inside.tree c.self.inside.files c.self.inside.processes c.args.pid p.0 p.1 c.fork.new.self c.in_ok-child.child answer c.record-record.result.now own c.hold.new.self c.hold.ensures.tree

pub hold_targets-requires-clause-room : goal.hold_targets-requires-clause-room
hold_targets-requires-clause-room c =
    let p = started c.args.self.now c.self.inside.tree c.self.inside.files c.self.inside.processes c.args.pid c.self.view_is c.requires.whole c.self.invariant c.invariant.ensures c.invariant-2.ensures c.requires.live in
    let answer = c.in_ok-child.ensures.forked c.self.inside.tree.tree c.self.inside.files.files p.0 p.1.at in
    let own = child-owned c.self.inside.tree c.self.inside.files c.self.inside.processes c.args.pid p.0 p.1 c.fork.new.self c.in_ok-child.child answer c.record-record.result.now c.record-record.ensures in
    child-room c.self.inside.tree c.self.inside.files c.self.inside.processes c.args.pid p.0 p.1 c.fork.new.self c.in_ok-child.child answer c.record-record.result.now own c.hold.new.self (one-apart (holds_at c.self.inside.tree) (holds_at c.hold.new.self) c.record-record.result.now.directory (sym c.hold.ensures.more) (λ n other. sym (c.hold.ensures.others n other)))

pub share-requires-clause-opened : goal.share-requires-clause-opened
share-requires-clause-opened c =
    let p = started c.args.self.now c.self.inside.tree c.self.inside.files c.self.inside.processes c.args.pid c.self.view_is c.requires.whole c.self.invariant c.invariant.ensures c.invariant-2.ensures c.requires.live in
    let answer = c.in_ok-child.ensures.forked c.self.inside.tree.tree c.self.inside.files.files p.0 p.1.at in
    let own = child-owned c.self.inside.tree c.self.inside.files c.self.inside.processes c.args.pid p.0 p.1 c.fork.new.self c.in_ok-child.child answer c.record-record.result.now c.record-record.ensures in
    child-opened c.self.inside.tree c.self.inside.files c.self.inside.processes c.args.pid p.0 p.1 c.fork.new.self c.in_ok-child.child answer c.record-record.result.now own

pub share-requires-clause-room : goal.share-requires-clause-room
share-requires-clause-room c =
    let p = started c.args.self.now c.self.inside.tree c.self.inside.files c.self.inside.processes c.args.pid c.self.view_is c.requires.whole c.self.invariant c.invariant.ensures c.invariant-2.ensures c.requires.live in
    let answer = c.in_ok-child.ensures.forked c.self.inside.tree.tree c.self.inside.files.files p.0 p.1.at in
    let own = child-owned c.self.inside.tree c.self.inside.files c.self.inside.processes c.args.pid p.0 p.1 c.fork.new.self c.in_ok-child.child answer c.record-record.result.now c.record-record.ensures in
    child-users c.self.inside.tree c.self.inside.files c.self.inside.processes c.args.pid p.0 p.1 c.fork.new.self c.in_ok-child.child answer c.record-record.result.now own

pub invariant_of-self-2 : goal.invariant_of-self-2
invariant_of-self-2 c =
    let p = started c.args.self.now c.self.inside.tree c.self.inside.files c.self.inside.processes c.args.pid c.self.view_is c.requires.whole c.self.invariant c.invariant.ensures c.invariant-2.ensures c.requires.live in
    let answer = c.in_ok-child.ensures.forked c.self.inside.tree.tree c.self.inside.files.files p.0 p.1.at in
    let own = child-owned c.self.inside.tree c.self.inside.files c.self.inside.processes c.args.pid p.0 p.1 c.fork.new.self c.in_ok-child.child answer c.record-record.result.now c.record-record.ensures in
    forked-up c.self.inside.tree c.self.inside.files c.self.inside.processes c.args.pid p.0 p.1 c.fork.new.self c.in_ok-child.child answer c.record-record.result.now own c.hold.new.self c.hold_targets.new.tree c.share.new.files (one-apart (holds_at c.self.inside.tree) (holds_at c.hold.new.self) c.record-record.result.now.directory (sym c.hold.ensures.more) (λ n other. sym (c.hold.ensures.others n other))) c.hold_targets.ensures.holds c.share.ensures

pub returns-clause-performed : goal.returns-clause-performed
returns-clause-performed c me at =
    let is = before c.args.self.now c.self.inside.tree c.self.inside.files c.self.inside.processes c.args.pid me c.self.view_is c.requires.whole c.self.invariant c.invariant.ensures c.invariant-2.ensures at in
    let answer = c.in_ok-child.ensures.forked c.self.inside.tree.tree c.self.inside.files.files me is.at in
    let own = child-owned c.self.inside.tree c.self.inside.files c.self.inside.processes c.args.pid me is c.fork.new.self c.in_ok-child.child answer c.record-record.result.now c.record-record.ensures in
    fork-performed c.self.inside.tree c.self.inside.files c.self.inside.processes c.args.pid me is c.fork.new.self c.in_ok-child.child answer c.record-record.result.now own c.hold.new.self c.hold_targets.new.tree c.share.new.files (one-apart (holds_at c.self.inside.tree) (holds_at c.hold.new.self) c.record-record.result.now.directory (sym c.hold.ensures.more) (λ n other. sym (c.hold.ensures.others n other))) c.hold_targets.ensures.holds c.share.ensures
    c.args.self.now c.self.view_is c.invariant-4.ensures c.invariant-3.ensures (c.hold_targets.ensures.tree ∙ c.hold.ensures.tree)
