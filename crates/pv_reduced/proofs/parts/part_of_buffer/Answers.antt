use Rattle.std.proofs.Common.{◌-◌, length, refl}
use Rattle.pv_reduced.proofs.StateKeys.{added_buffer}
use Rattle.pv_reduced.proofs.parts.part_of_buffer.Goals as goal

pub returns : goal.returns
returns c = λ program line is.
    let buffer = c.args.buffer.now in
    added_buffer c.args.live program line buffer c.min-count.result (length buffer) (length buffer - c.min-count.result) _ _ _ _ is c.min-count.ensures refl refl c.new-part.ensures.items
    c.in_ok-push_number.ensures c.in_ok-push_items.ensures c.in_ok-push_zeros.ensures
