use Rattle.std.proofs.Common.{◌+◌, length, refl}
use Rattle.pv_reduced.proofs.StateKeys.{added_files}
use Rattle.pv_reduced.proofs.parts.part_of_files.Goals as goal

pub returns : goal.returns
returns c =
    let rest = c.saturating_sub-rest.result in
    added_files c.args.files.now.files c.args.order.now (length c.args.order.now + rest) rest _ _ _ _ c.new-part.ensures.items c.saturating_sub-rest.ensures refl
    c.in_ok-push_number.ensures c.in_ok-push_files_in_order.ensures c.in_ok-push_zeros.ensures
