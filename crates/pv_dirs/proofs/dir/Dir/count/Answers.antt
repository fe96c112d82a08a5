use Rattle.std.proofs.Common.{◌/◌, ap, ◌∙◌, arith}
use Rattle.pv_model.specs.Machine.{entry_length}
use Rattle.pv_dirs.proofs.EqualParts.{entries_few, entries_within}
use Rattle.pv_dirs.proofs.dir.Dir.count.Goals as goal

pub returns-clause-few : goal.returns-clause-few
returns-clause-few c =
    let length = c.layout.ensures.slot_length ∙ ap entry_length c.version.ensures in
    omega (arith, ap (λ n. c.size.result / n) length, entries_within c.args.self.now.inodes.now.version c.size.result c.size.ensures.allowed, entries_few c.args.self.now.inodes.now.version)
