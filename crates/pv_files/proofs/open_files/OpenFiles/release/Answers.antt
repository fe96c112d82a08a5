use Rattle.std.proofs.Common.{◌≡◌, ◌≢◌, ◌<◌, Some, refl, ap, sym, ◌∙◌, option_map, arith}
use Rattle.pv_model.specs.Machine.{OpenFile}
use Rattle.pv_files.specs.declared.opened.Opened.{Opened}
use Rattle.pv_files.specs.Slots.{file_of}
use Rattle.pv_files.proofs.RecordKeys.{open_below, open_recorded, users_open, used_open, file_open, users_fewer, used_still, used_before, files_closed, files_preserved}
use Rattle.pv_files.proofs.open_files.OpenFiles.release.Goals as goal

pub offset_bounds-self-inside-file : goal.offset_bounds-self-inside-file
offset_bounds-self-inside-file c = omega (arith, open_below c.self.inside.records c.self.inside.keys c.self.invariant.are_keys c.args.self.now c.self.view_is c.args.file c.requires)

pub bounds-self-inside-file : goal.bounds-self-inside-file
bounds-self-inside-file c = open_below c.self.inside.records c.self.inside.keys c.self.invariant.are_keys c.args.self.now c.self.view_is c.args.file c.requires

pub index_mut-requires : goal.index_mut-requires
index_mut-requires c = open_recorded c.self.inside.records c.self.inside.keys c.self.invariant.are_keys c.args.self.now c.self.view_is c.args.file c.requires

pub take_user-requires : goal.take_user-requires
take_user-requires c = used_open c.self.inside.records c.self.inside.keys c.self.invariant.are_keys c.args.self.now c.self.view_is c.args.file c.requires c.index_mut.result.now c.index_mut.ensures.value

pub invariant_of-self : goal.invariant_of-self
invariant_of-self c =
    let several : c.index_mut.result.now.users ≢ 1 = λ one. let some = c.in_err-node.ensures.last.1 one in cc in
    let more : 0 < c.take_user.new.self.users = omega (arith, ap (λ (o : Opened). o.users) c.take_user.ensures.taken, used_open c.self.inside.records c.self.inside.keys c.self.invariant.are_keys c.args.self.now c.self.view_is c.args.file c.requires c.index_mut.result.now c.index_mut.ensures.value, several) in
    used_still c.self.inside.records c.self.inside.keys c.self.invariant.are_keys c.args.self.now c.self.view_is c.args.file c.requires c.index_mut.result.now c.index_mut.ensures.value c.self.inside.first c.self.inside.most c.self.invariant c.take_user.new.self more

pub returns-in_err-node-clause-users : goal.returns-in_err-node-clause-users
returns-in_err-node-clause-users c = users_fewer c.self.inside.records c.self.inside.keys c.self.invariant.are_keys c.args.self.now c.self.view_is c.args.file c.requires c.index_mut.result.now c.index_mut.ensures.value c.take_user.new.self (ap (λ (o : Opened). o.users) c.take_user.ensures.taken)

pub returns-in_err-node-clause-last : goal.returns-in_err-node-clause-last
returns-in_err-node-clause-last c = rw (c.from_residual.ensures, users_open c.self.inside.records c.self.inside.keys c.self.invariant.are_keys c.args.self.now c.self.view_is c.args.file c.requires c.index_mut.result.now c.index_mut.ensures.value) c.in_err-node.ensures.last

pub returns-in_err-node-clause-stays : goal.returns-in_err-node-clause-stays
returns-in_err-node-clause-stays c =
    let several : c.index_mut.result.now.users ≢ 1 = λ one. let some = c.in_err-node.ensures.last.1 one in cc in
    let more : 0 < c.take_user.new.self.users = omega (arith, ap (λ (o : Opened). o.users) c.take_user.ensures.taken, used_open c.self.inside.records c.self.inside.keys c.self.invariant.are_keys c.args.self.now c.self.view_is c.args.file c.requires c.index_mut.result.now c.index_mut.ensures.value, several) in
    rw c.from_residual.ensures (files_preserved c.self.inside.records c.self.inside.keys c.self.invariant.are_keys c.args.self.now c.self.view_is c.args.file c.requires c.index_mut.result.now c.index_mut.ensures.value c.take_user.new.self more (ap file_of c.take_user.ensures.taken))

pub invariant_of-self-2 : goal.invariant_of-self-2
invariant_of-self-2 c = rw c.min-self-inside.ensures (used_before c.self.inside.records c.self.inside.keys c.self.invariant.are_keys c.args.self.now c.self.view_is c.args.file c.requires c.index_mut.result.now c.index_mut.ensures.value c.self.inside.first c.self.inside.most c.self.invariant c.take_user.new.self)

pub returns-clause-users : goal.returns-clause-users
returns-clause-users c = users_fewer c.self.inside.records c.self.inside.keys c.self.invariant.are_keys c.args.self.now c.self.view_is c.args.file c.requires c.index_mut.result.now c.index_mut.ensures.value c.take_user.new.self (ap (λ (o : Opened). o.users) c.take_user.ensures.taken)

pub returns-clause-last : goal.returns-clause-last
returns-clause-last c = rw (users_open c.self.inside.records c.self.inside.keys c.self.invariant.are_keys c.args.self.now c.self.view_is c.args.file c.requires c.index_mut.result.now c.index_mut.ensures.value) c.in_ok-node.ensures.last

pub returns-clause-node : goal.returns-clause-node
returns-clause-node c =
    ap (option_map (λ (f : OpenFile). f.node)) (file_open c.self.inside.records c.self.inside.keys c.self.invariant.are_keys c.args.self.now c.self.view_is c.args.file c.requires c.index_mut.result.now c.index_mut.ensures.value) ∙ ap Some (sym c.in_ok-node.ensures.node)

pub returns-clause-closed : goal.returns-clause-closed
returns-clause-closed c =
    let none : c.take_user.new.self.users ≡ 0 = omega (arith, ap (λ (o : Opened). o.users) c.take_user.ensures.taken, c.in_ok-node.ensures.last.0 refl) in
    files_closed c.self.inside.records c.self.inside.keys c.self.invariant.are_keys c.args.self.now c.self.view_is c.args.file c.requires c.index_mut.result.now c.index_mut.ensures.value c.take_user.new.self none
