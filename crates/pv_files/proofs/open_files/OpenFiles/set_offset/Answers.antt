use Rattle.std.proofs.Common.{◌<◌, ap, arith}
use Rattle.pv_model.specs.Machine.{OpenFile}
use Rattle.pv_files.specs.declared.opened.Opened.{Opened}
use Rattle.pv_files.specs.Slots.{file_of}
use Rattle.pv_files.proofs.RecordKeys.{open_below, open_recorded, used_open, used_still, changed}
use Rattle.pv_files.proofs.open_files.OpenFiles.set_offset.Goals as goal

pub offset_bounds-self-inside-file : goal.offset_bounds-self-inside-file
offset_bounds-self-inside-file c = omega (arith, open_below c.self.inside.records c.self.inside.keys c.self.invariant.are_keys c.args.self.now c.self.view_is c.args.file c.requires)

pub bounds-self-inside-file : goal.bounds-self-inside-file
bounds-self-inside-file c = open_below c.self.inside.records c.self.inside.keys c.self.invariant.are_keys c.args.self.now c.self.view_is c.args.file c.requires

pub index_mut-requires : goal.index_mut-requires
index_mut-requires c = open_recorded c.self.inside.records c.self.inside.keys c.self.invariant.are_keys c.args.self.now c.self.view_is c.args.file c.requires

pub returns : goal.returns
returns c =
    let moved = λ (f : OpenFile). record f { offset = c.args.offset } in
    changed c.self.inside.records c.self.inside.keys c.self.invariant.are_keys c.args.self.now c.self.view_is c.args.file c.requires c.index_mut.result.now c.index_mut.ensures.value c.put_offset.new.self moved (ap file_of c.put_offset.ensures) (ap (λ (o : Opened). o.users) c.put_offset.ensures)

pub invariant_of-self : goal.invariant_of-self
invariant_of-self c =
    let some : 0 < c.put_offset.new.self.users = omega (arith, ap (λ (o : Opened). o.users) c.put_offset.ensures, used_open c.self.inside.records c.self.inside.keys c.self.invariant.are_keys c.args.self.now c.self.view_is c.args.file c.requires c.index_mut.result.now c.index_mut.ensures.value) in
    used_still c.self.inside.records c.self.inside.keys c.self.invariant.are_keys c.args.self.now c.self.view_is c.args.file c.requires c.index_mut.result.now c.index_mut.ensures.value c.self.inside.first c.self.inside.most c.self.invariant c.put_offset.new.self some
