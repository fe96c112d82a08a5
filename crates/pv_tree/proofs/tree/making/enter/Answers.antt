use Rattle.pv_tree.proofs.RoomForEntries.{add-allowed, add-refused}
use Rattle.pv_tree.proofs.tree.making.enter.Goals as goal

pub returns : goal.returns
returns c =
    let t = c.args.directories.now in
    let e = c.requires.entry in
    record {
      ok = c.add.ensures.ok;
      err = c.add.ensures.err;
      allowed = add-allowed t c.requires.shaped c.args.directory c.args.name.now c.args.node e.directory e.absent c.add.result c.add.ensures.too_big c.add.ensures.full;
      refused = add-refused t c.requires.shaped c.args.directory c.args.name.now c.args.node e.directory e.absent c.add.result c.add.ensures.too_big c.add.ensures.full;
    }
