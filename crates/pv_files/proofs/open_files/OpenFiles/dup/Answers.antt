use Rattle.std.proofs.Common.{◌<◌, ap, arith}
use Rattle.pv_files.specs.declared.opened.Opened.{Opened}
use Rattle.pv_files.specs.Slots.{file_of}
use Rattle.pv_files.proofs.RecordKeys.{open_below, open_recorded, users_open, used_still, shared}
use Rattle.pv_files.proofs.open_files.OpenFiles.dup.Goals as goal

pub offset_bounds-self-inside-file : goal.offset_bounds-self-inside-file
offset_bounds-self-inside-file c = omega (arith, open_below c.self.inside.records c.self.inside.keys c.self.invariant.are_keys c.args.self.now c.self.view_is c.args.file c.requires.opened)

pub bounds-self-inside-file : goal.bounds-self-inside-file
bounds-self-inside-file c = open_below c.self.inside.records c.self.inside.keys c.self.invariant.are_keys c.args.self.now c.self.view_is c.args.file c.requires.opened

pub index_mut-requires : goal.index_mut-requires
index_mut-requires c = open_recorded c.self.inside.records c.self.inside.keys c.self.invariant.are_keys c.args.self.now c.self.view_is c.args.file c.requires.opened

pub add_user-requires : goal.add_user-requires
add_user-requires c = omega (arith, c.requires.room, users_open c.self.inside.records c.self.inside.keys c.self.invariant.are_keys c.args.self.now c.self.view_is c.args.file c.requires.opened c.index_mut.result.now c.index_mut.ensures.value)

pub returns : goal.returns
returns c = shared c.self.inside.records c.self.inside.keys c.self.invariant.are_keys c.args.self.now c.self.view_is c.args.file c.requires.opened c.index_mut.result.now c.index_mut.ensures.value c.add_user.new.self (ap file_of c.add_user.ensures) (ap (λ (o : Opened). o.users) c.add_user.ensures)

pub invariant_of-self : goal.invariant_of-self
invariant_of-self c =
    let some : 0 < c.add_user.new.self.users = omega (arith, ap (λ (o : Opened). o.users) c.add_user.ensures) in
    used_still c.self.inside.records c.self.inside.keys c.self.invariant.are_keys c.args.self.now c.self.view_is c.args.file c.requires.opened c.index_mut.result.now c.index_mut.ensures.value c.self.inside.first c.self.inside.most c.self.invariant c.add_user.new.self some
