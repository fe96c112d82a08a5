use Rattle.pv_dirs.specs.Dirs.{directory_bytes}
use Rattle.pv_dirs.proofs.AscendingNames.{absent_ascending}
use Rattle.pv_dirs.proofs.CallResults.{on_none}
use Rattle.pv_dirs.proofs.dir.Dir.binary_search.Goals as goal

pub returns-clause-absent : goal.returns-clause-absent
returns-clause-absent c =
    on_none c.slot_with.result c.slot_with.ensures.other
    (absent_ascending c.args.self.now.inodes.now.version (directory_bytes c.args.self.now) c.requires.ascend c.args.name.now c.count_before.result c.count_before.ensures.before c.count_before.ensures.past)
