-- The node has a reference, and the open file has one user.
use Rattle.std.proofs.Common.{ap, sym, subst, ◌∙◌, arith}
use Rattle.std.specs.Prelude.{IsSome, IsTrue}
use Rattle.pv_model.specs.Machine.{is_file, least_free, State, process_at, node_at}
use Rattle.pv_calls_state.proofs.ProcessChanges.{before, started}
use Rattle.pv_calls_state.specs.Changes.{tree_for_open}
use Rattle.pv_calls_state.specs.Opening.{CanOpen}
use Rattle.pv_calls_state.proofs.OpenedNodes.{cut-there, open-few, opened-up, opened-state}
use Rattle.pv_calls_state.proofs.parts.Parts.open.Goals as goal

pub open_node-number-requires-clause-there : goal.open_node-number-requires-clause-there
open_node-number-requires-clause-there c =
    let p = started c.args.self.now c.self.inside.tree c.self.inside.files c.self.inside.processes c.args.pid c.self.view_is c.requires.whole c.self.invariant c.invariant.ensures c.invariant-2.ensures c.requires.live in
    let view = c.self.view_is in
    subst (λ x. IsSome (node_at x c.args.node)) (sym c.cut_if.ensures.tree)
    (cut-there c.self.inside.tree.tree p.1.whole.tree c.args.node c.args.flags.truncate
    (λ cuts. subst (λ (x : State). IsTrue (is_file (node_at x.tree c.args.node))) (sym view) (c.requires.cuts_a_file cuts))
    (subst (λ (x : State). IsSome (node_at x.tree c.args.node)) (sym view) c.requires.there))

pub open_node-number-requires-clause-few : goal.open_node-number-requires-clause-few
open_node-number-requires-clause-few c =
    let p = started c.args.self.now c.self.inside.tree c.self.inside.files c.self.inside.processes c.args.pid c.self.view_is c.requires.whole c.self.invariant c.invariant.ensures c.invariant-2.ensures c.requires.live in
    open-few c.self.inside.tree c.self.inside.files c.self.inside.processes c.args.pid p.0 p.1 c.args.node c.args.flags c.cut_if.new.tree c.cut_if.ensures.holds

pub open_node-number-requires-clause-room : goal.open_node-number-requires-clause-room
open_node-number-requires-clause-room c =
    subst (λ (x : State). CanOpen x.files (process_at x c.args.pid)) (sym c.self.view_is) c.requires.room

pub invariant_of-self : goal.invariant_of-self
invariant_of-self c =
    let p = started c.args.self.now c.self.inside.tree c.self.inside.files c.self.inside.processes c.args.pid c.self.view_is c.requires.whole c.self.invariant c.invariant.ensures c.invariant-2.ensures c.requires.live in
    opened-up c.self.inside.tree c.self.inside.files c.self.inside.processes c.args.pid p.0 p.1 c.args.node c.args.flags c.cut_if.new.tree c.cut_if.ensures.holds c.open_node-number.new.tree c.open_node-number.new.files c.open_node-number.new.processes c.open_node-number.ensures.referenced.more c.open_node-number.ensures.referenced.others
    (omega (arith, c.requires.room.file, ap (λ (x : State). least_free x.files) c.self.view_is)) c.open_node-number.ensures.files c.open_node-number.ensures.processes

pub returns-clause-opened : goal.returns-clause-opened
returns-clause-opened c me at =
    let is = before c.args.self.now c.self.inside.tree c.self.inside.files c.self.inside.processes c.args.pid me c.self.view_is c.requires.whole c.self.invariant c.invariant.ensures c.invariant-2.ensures at in
    opened-state c.self.inside.tree c.self.inside.files c.self.inside.processes c.args.pid me is c.args.node c.args.flags c.cut_if.new.tree c.cut_if.ensures.holds c.open_node-number.new.tree c.open_node-number.new.files c.open_node-number.new.processes c.open_node-number.ensures.referenced.more c.open_node-number.ensures.referenced.others
    (omega (arith, c.requires.room.file, ap (λ (x : State). least_free x.files) c.self.view_is)) c.open_node-number.ensures.files c.open_node-number.ensures.processes
    c.args.self.now c.self.view_is (tree_for_open c.args.self.now.tree c.args.flags c.args.node)
    (c.open_node-number.ensures.referenced.tree ∙ c.cut_if.ensures.tree ∙ ap (λ (x : State). tree_for_open x.tree c.args.flags c.args.node) c.self.view_is)
    c.invariant-3.ensures c.invariant-4.ensures
