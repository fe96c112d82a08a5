use Rattle.std.proofs.Common.{◌*◌, ap, ◌∙◌, arith}
use Rattle.pv_model.specs.Machine.{entry_length}
use Rattle.pv_dirs.proofs.EqualParts.{start_fits}
use Rattle.pv_dirs.proofs.dir.Dir.start.Goals as goal

pub overflow_mul-result : goal.overflow_mul-result
overflow_mul-result c =
    let length = c.layout.ensures.slot_length ∙ ap entry_length c.version.ensures in
    omega (arith, ap (λ n. n * c.args.k) length, start_fits c.args.self.now.inodes.now.version c.args.k c.requires.few)
