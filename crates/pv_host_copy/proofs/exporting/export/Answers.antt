use Rattle.std.proofs.Common.{◌+◌, arith}
use Rattle.pv_host_copy.specs.declared.target.TargetFault.TheVariants.{Make, Memory}
use Rattle.pv_host_copy.proofs.ExportSteps.{export-stops}
use Rattle.pv_host_copy.proofs.exporting.export.Goals as goal

pub returns-in-Err-Make : goal.returns-in-Err-Make
returns-in-Err-Make g c =
    export-stops c.args.tree.now.tree (c.sizes-depth.result.inodes + 1) c.new-path.result.items c.new-firsts.result.items (g.T.HostTarget.made c.args.target.now)
    (g.T.HostTarget.made c.export_within.new.target) (omega (arith, c.sizes-depth.ensures.inodes, c.invariant.ensures.well_formed.numbers)) c.new-path.ensures.items c.new-firsts.ensures.items
    c.export_within.new.path.items Make (rw c.in-Err-Make.field-0-is at c.in-Err-Make.ensures.made)

pub returns : goal.returns
returns g c =
    export-stops c.args.tree.now.tree (c.sizes-depth.result.inodes + 1) c.new-path.result.items c.new-firsts.result.items (g.T.HostTarget.made c.args.target.now)
    (g.T.HostTarget.made c.export_within.new.target) (omega (arith, c.sizes-depth.ensures.inodes, c.invariant.ensures.well_formed.numbers)) c.new-path.ensures.items c.new-firsts.ensures.items
    c.export_within.new.path.items Memory (rw c.in-Err-Memory.field-0-is at c.in-Err-Memory.ensures.made)
