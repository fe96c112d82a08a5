-- Truncation of a file to no bytes is never refused.
use Rattle.std.proofs.Common.{sym, ◌∙◌, ◌≡◌, ap, true, false, arith}
use Rattle.std.specs.Result.{is_err}
use Rattle.pv_calls_state.proofs.parts.descriptors.cut_if.Goals as goal

pub unreachable-requires : goal.unreachable-requires
unreachable-requires c =
    let invalid : true ≡ false = sym (ap is_err c.in_default.is) ∙ c.cut.ensures.shorter (omega arith) in cc invalid
