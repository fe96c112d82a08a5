use Rattle.std.proofs.Common.{rules, ◌≡◌, ◌≤◌, ◌<◌, ◌+◌, ◌∙◌, Some, arith, ap, refl, sym, subst, take, option_map}
use Rattle.std.proofs.lemmas.List.{length-take-le}
use Rattle.std.proofs.lemmas.Result.{IfErr-weaker}
use Rattle.pv_files.specs.Counted.{counted_with_file}
use Rattle.pv_model.specs.Calls.Descriptors.{with_bytes_written}
use Rattle.pv_model.specs.Machine.{collect, at_number}
use Rattle.pv_calls_state.specs.Counts.{IsCountedUp}
use Rattle.pv_procs.specs.OfTree.Changes.{overwritten}
use Rattle.pv_procs.specs.OfTree.Rooms.{room_error}
use Rattle.pv_calls_state.proofs.UncountedChanges.{counted-changed}
use Rattle.pv_calls_state.proofs.FileWrites.{own-buffer, write-changed, write-refused}
use Rattle.pv_calls_state.proofs.parts.Parts.write_front.Goals as goal
use Rattle.pv_laws_trees.proofs.NodeRoom.{greatest-low}

pub overflow_add-at : goal.overflow_add-at
overflow_add-at c =
    let long = length-take-le c.args.count c.buffer-buffer.result.now (subst (λ n. c.args.count ≤ n) (sym c.buffer-buffer.ensures.size) c.requires.few) in
    omega (arith, long, c.in_ok-write_at.ensures.end (subst (λ n. 0 < n) (sym long) c.requires.some), greatest-low c.self.inside.tree.tree.version)

pub invariant_of-self-2 : goal.invariant_of-self-2
invariant_of-self-2 c =
    let i = c.self.inside in
    let up = subst (λ h. IsCountedUp h i.files i.processes) (sym c.in_ok-write_at.ensures.change.ok) (record { users = c.self.invariant.users; holds = c.self.invariant.holds }) in
    counted-changed c.write_at.new.self i.files c.set_offset.new.self i.processes up c.args.file _ (λ f. refl) c.set_offset.ensures

pub returns-clause-written : goal.returns-clause-written
returns-clause-written c = λ me f lives there.
    let i = c.self.inside in
    let buffer = c.buffer-buffer.result.now in
    let long = length-take-le c.args.count buffer (subst (λ n. c.args.count ≤ n) (sym c.buffer-buffer.ensures.size) c.requires.few) in
    let moved = subst (λ n. option_map (λ f. counted_with_file i.files c.args.file (record f { offset = c.args.at + n })) (at_number i.files.files c.args.file) ≡ Some c.set_offset.new.self) (sym long) c.set_offset.ensures in
    write-changed i.tree i.files i.processes c.args.self.now c.self.view_is c.self.invariant c.invariant-2.ensures c.invariant.ensures c.requires.whole.tree.well_formed c.args.file c.node-node.result c.args.at (take c.args.count buffer)
    (subst (λ n. 0 < n) (sym long) c.requires.some) c.node-node.ensures c.write_at.new.self c.set_offset.new.self c.in_ok-write_at.ensures.change.ok moved f there
    ∙ ap (λ b. collect (with_bytes_written c.args.self.now c.args.pid me c.args.file f c.args.at (take c.args.count b)))
    (own-buffer i.tree i.files i.processes c.args.self.now c.self.view_is c.args.pid me c.record.result.now buffer lives c.record.ensures c.buffer-buffer.ensures.value)

pub returns-in_err-write_at-clause-refused : goal.returns-in_err-write_at-clause-refused
returns-in_err-write_at-clause-refused c =
    let i = c.self.inside in
    let buffer = c.buffer-buffer.result.now in
    let long = length-take-le c.args.count buffer (subst (λ n. c.args.count ≤ n) (sym c.buffer-buffer.ensures.size) c.requires.few) in
    IfErr-weaker c.from_residual.result
    (λ why. room_error (overwritten i.tree.tree c.node-node.result c.args.at (take c.args.count buffer)) ≡ Some why) _
    (λ why no_room me f lives there.
    let own = own-buffer i.tree i.files i.processes c.args.self.now c.self.view_is c.args.pid me c.record.result.now buffer lives c.record.ensures c.buffer-buffer.ensures.value in
    ap (λ b. room_error (collect (with_bytes_written c.args.self.now c.args.pid me c.args.file f c.args.at (take c.args.count b))).tree) (sym own)
    ∙ write-refused i.tree i.files i.processes c.args.self.now c.self.view_is c.self.invariant c.invariant-2.ensures c.invariant.ensures c.requires.whole.tree.well_formed c.args.file c.node-node.result c.args.at (take c.args.count buffer)
    (subst (λ n. 0 < n) (sym long) c.requires.some) c.node-node.ensures why no_room f there)
    (search rules)
