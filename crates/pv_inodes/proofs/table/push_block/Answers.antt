use Rattle.pv_inodes.specs.Layout.{pointer_of}
use Rattle.pv_inodes.proofs.InodeLayouts.{pointer_of-few}
use Rattle.pv_inodes.proofs.BlockAllocation.{pushed-steps, pointer_at-cleared, length-cleared}
use Rattle.pv_inodes.proofs.table.push_block.Goals as goal

pub set_owned-requires-clause-index : goal.set_owned-requires-clause-index
set_owned-requires-clause-index c following =
    let pointer = pointer_at-cleared c.args.version _ _ _ c.args.slot c.in-Some.k (pointer_of c.args.i) c.in-Some.ensures.after c.clear.ensures c.requires.home c.in-Some.ensures.from (pointer_of-few c.args.version c.args.i c.requires.owned) in
    let long = length-cleared _ _ _ c.in-Some.k c.in-Some.ensures.after c.clear.ensures in
    rw (pointer, long) (c.requires.index following)

pub returns-clause-after : goal.returns-clause-after
returns-clause-after c = pushed-steps c.args.version _ _ _ _ c.args.slot c.args.i c.in-Some.k c.in-Some.ensures.after c.clear.ensures c.set_owned.ensures
