use Rattle.std.proofs.Common.{sym}
use Rattle.pv_answers.proofs.NodePaths.{root-text, text-is}
use Rattle.pv_streams.proofs.WriterContracts.{writes_as}
use Rattle.pv_answers.proofs.nodes.write_path_of.Goals as goal

pub returns-then-node-eq-ROOT : goal.returns-then-node-eq-ROOT
returns-then-node-eq-ROOT g c = writes_as (root-text c.args.tree.now.tree c.sizes.ensures.present.well_formed c.args.node c.if-node-eq-ROOT.true) c.write_whole.ensures

pub returns : goal.returns
returns g c = writes_as (text-is c.args.tree.now.tree c.args.node c.if-node-eq-ROOT.false (sym c.if-not-has_path.ensures)) c.write.ensures
