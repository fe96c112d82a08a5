use Rattle.pv_model.specs.declared.kind.Kind.TheVariants.{File}
use Rattle.pv_inodes.specs.Files.{truncated_files}
use Rattle.pv_bench.proofs.InodesInUse.{used-after, used-truncated_files, used-fresh}
use Rattle.pv_bench.proofs.long_file.LongFile.new.Goals as goal

pub cut-requires : goal.cut-requires
cut-requires c = used-fresh c.fresh.result c.in_ok-inodes.inodes c.fresh.new.self c.in_ok-number.number File c.in_ok-number.ensures c.fresh.ensures.within c.fresh.ensures.after

pub invariant_of-result-clause-used : goal.invariant_of-result-clause-used
invariant_of-result-clause-used c =
    let length = c.layout-length.result.greatest_length in
    let used = used-fresh c.fresh.result c.in_ok-inodes.inodes c.fresh.new.self c.in_ok-number.number File c.in_ok-number.ensures c.fresh.ensures.within c.fresh.ensures.after in
    used-after c.cut.result c.fresh.new.self c.cut.new.self (truncated_files c.fresh.new.self c.in_ok-number.number length) c.in_ok-number.number c.cut.ensures.ok c.cut.ensures.err used (used-truncated_files c.fresh.new.self c.in_ok-number.number length used)
