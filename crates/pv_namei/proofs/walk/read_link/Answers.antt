use Rattle.std.proofs.Common.{arith}
use Rattle.pv_model.specs.Machine.{node_at}
use Rattle.pv_namei.proofs.NodeKinds.{text-read, text-short}
use Rattle.pv_namei.proofs.walk.read_link.Goals as goal

pub returns-clause-text : goal.returns-clause-text
returns-clause-text c =
    (text-read (node_at c.args.tree.now.tree c.args.link) c.requires.link (text-short c.args.tree.now.tree c.requires.well_formed c.args.link) c.args.buffer.now c.read_at.new.buffer c.read_at.result
    (omega arith) c.read_at.ensures.count c.read_at.ensures.bytes).0
