use Rattle.std.proofs.Common.{◌∙◌, ap}
use Rattle.pv_laws_classes.specs.Liveness.{has_line}
use Rattle.pv_reduced.proofs.LivenessComputation.{register-there}
use Rattle.pv_reduced.proofs.liveness.has_register.Goals as goal

pub returns : goal.returns
returns c =
    c.has_line.ensures ∙ ap (λ table. has_line table c.args.line) (register-there c.args.tables.now c.args.register c.index-tables-register.result _ c.requires c.index-tables-register.is c.deref.ensures.value)
