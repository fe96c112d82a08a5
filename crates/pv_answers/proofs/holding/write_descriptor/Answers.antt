use Rattle.pv_model.specs.Machine.{text_line}
use Rattle.std.proofs.Common.{rules}
use Rattle.std.specs.Option.{option_copied}
use Rattle.pv_answers.proofs.DescriptorLines.{line-is}
use Rattle.pv_streams.proofs.EqualOutputs.{prefix_as}
use Rattle.pv_answers.proofs.holding.write_descriptor.Goals as goal

pub returns : goal.returns
unfolding text_line
returns g c = record {
  whole = search rules;
  prefix =
      (let files = c.files-files.ensures in
      let same = line-is c.args.parts.now c.args.pid c.args.number c.args.file c.mode.result c.appends.result c.marked.result c.offset.result c.node.result (option_copied c.last_name.result)
      c.args.owned.now.descriptors c.requires.file (rw files at c.mode.ensures) (rw files at c.appends.ensures) c.marked.ensures (rw files at c.offset.ensures) (rw files at c.node.ensures)
      (rw files at c.last_name.ensures) in
      prefix_as _ _ _ _ same c.write.result (rw c.from.ensures at (rw c.tree.ensures at c.write.ensures.prefix)));
  failed = search rules;
  quiet = search rules;
}
