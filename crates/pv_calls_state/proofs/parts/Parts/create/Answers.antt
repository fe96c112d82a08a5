-- The new node has a reference, and the open file has one user.
use Rattle.std.proofs.Common.{ap, sym, subst, ◌∙◌, arith, rules}
use Rattle.std.proofs.lemmas.Result.{IfErr-weaker}
use Rattle.pv_model.specs.Machine.{least_free, State, process_at, Tree, new_number, with_new_node, with_open_file, collect}
use Rattle.pv_calls_state.proofs.ProcessChanges.{before, started}
use Rattle.pv_model.specs.declared.kind.NewNode.TheVariants.{File}
use Rattle.pv_procs.specs.OfTree.Changes.{new_node}
use Rattle.pv_calls_state.specs.Opening.{CanOpen, IsLeastDescriptor}
use Rattle.pv_procs.specs.OfTree.Holding.{HeldTree}
use Rattle.pv_procs.specs.OfTree.Rooms.{room_error}
use Rattle.pv_calls_state.proofs.OpenedNodes.{made-tree, open-few, opened-up, opened-state}
use Rattle.pv_calls_state.proofs.parts.Parts.create.Goals as goal

pub open_node-number-requires-clause-few : goal.open_node-number-requires-clause-few
open_node-number-requires-clause-few c =
    let p = started c.args.self.now c.self.inside.tree c.self.inside.files c.self.inside.processes c.args.pid c.self.view_is c.requires.whole c.self.invariant c.invariant.ensures c.invariant-2.ensures c.requires.live in
    open-few c.self.inside.tree c.self.inside.files c.self.inside.processes c.args.pid p.0 p.1 c.in_ok-node.node c.args.flags c.make.new.self (ap (λ (x : HeldTree). x.holds) c.in_ok-node.ensures.change.ok)

pub open_node-number-requires-clause-room : goal.open_node-number-requires-clause-room
open_node-number-requires-clause-room c =
    subst (λ (x : State). CanOpen x.files (process_at x c.args.pid)) (sym c.self.view_is) c.requires.room

pub invariant_of-self-2 : goal.invariant_of-self-2
invariant_of-self-2 c =
    let p = started c.args.self.now c.self.inside.tree c.self.inside.files c.self.inside.processes c.args.pid c.self.view_is c.requires.whole c.self.invariant c.invariant.ensures c.invariant-2.ensures c.requires.live in
    opened-up c.self.inside.tree c.self.inside.files c.self.inside.processes c.args.pid p.0 p.1 c.in_ok-node.node c.args.flags c.make.new.self (ap (λ (x : HeldTree). x.holds) c.in_ok-node.ensures.change.ok) c.open_node-number.new.tree c.open_node-number.new.files c.open_node-number.new.processes c.open_node-number.ensures.referenced.more c.open_node-number.ensures.referenced.others
    (omega (arith, c.requires.room.file, ap (λ (x : State). least_free x.files) c.self.view_is)) c.open_node-number.ensures.files c.open_node-number.ensures.processes

pub returns-clause-made : goal.returns-clause-made
returns-clause-made c = record {
  number = subst (λ (x : State). IsLeastDescriptor (process_at x c.args.pid) c.open_node-number.result) c.self.view_is c.open_node-number.ensures.number;
  opened = λ me at.
      let is = before c.args.self.now c.self.inside.tree c.self.inside.files c.self.inside.processes c.args.pid me c.self.view_is c.requires.whole c.self.invariant c.invariant.ensures c.invariant-2.ensures at in
      let new : State → Tree = λ x. with_new_node x.tree c.args.directory c.args.name.now (new_node File) in
      opened-state c.self.inside.tree c.self.inside.files c.self.inside.processes c.args.pid me is c.in_ok-node.node c.args.flags c.make.new.self (ap (λ (x : HeldTree). x.holds) c.in_ok-node.ensures.change.ok) c.open_node-number.new.tree c.open_node-number.new.files c.open_node-number.new.processes c.open_node-number.ensures.referenced.more c.open_node-number.ensures.referenced.others
      (omega (arith, c.requires.room.file, ap (λ (x : State). least_free x.files) c.self.view_is)) c.open_node-number.ensures.files c.open_node-number.ensures.processes
      c.args.self.now c.self.view_is (new c.args.self.now)
      (c.open_node-number.ensures.referenced.tree ∙ ap (λ (x : HeldTree). x.tree) c.in_ok-node.ensures.change.ok ∙ ap new c.self.view_is)
      c.invariant-3.ensures c.invariant-4.ensures
      ∙ ap (λ n. collect (with_open_file c.args.self.now c.args.pid me c.args.flags n (new c.args.self.now))) (c.in_ok-node.ensures.number ∙ ap (λ (x : State). new_number x.tree) c.self.view_is);
}

pub returns-in_err-node-clause-lacks_room : goal.returns-in_err-node-clause-lacks_room
returns-in_err-node-clause-lacks_room c =
    let s = c.args.self.now in
    IfErr-weaker c.from_residual.result _ _
    (λ why no_room. record {
      refused = λ me at.
          ap room_error (made-tree s c.args.pid me c.requires.whole at c.args.flags c.args.directory c.args.name.now c.requires.directory.0 c.requires.absent c.requires.room.file (c.requires.room.descriptor me at))
          ∙ ap (λ (x : State). room_error (with_new_node x.tree c.args.directory c.args.name.now (new_node File))) (sym c.self.view_is) ∙ no_room;
      unchanged = rw c.in_err-node.ensures.change.err c.self.view_is;
    })
    (search rules)
