use Rattle.std.proofs.lemmas.Result.{on_ok_weaker}
use Rattle.std.specs.Option.{option_copied}
use Rattle.pv_model.specs.Machine.{at_number}
use Rattle.pv_state_encoding.proofs.MapNumbers.{added_opened}
use Rattle.pv_state_encoding.proofs.files.push_opened.Goals as goal

pub returns : goal.returns
returns c =
    on_ok_weaker c.push_name.result
    (λ last. added_opened (at_number c.args.files.now.files c.args.file) c.node.result c.offset.result c.mode.result c.appends.result (option_copied c.last_name.result) _ _ _ _ _ _
    c.node.ensures c.mode.ensures c.appends.ensures c.offset.ensures c.last_name.ensures
    (rw c.from.ensures at c.in_ok-push_number.ensures) c.in_ok-push_mode.ensures c.in_ok-push_bool.ensures (rw c.from-2.ensures at c.in_ok-push_number-2.ensures) last)
    c.push_name.ensures
