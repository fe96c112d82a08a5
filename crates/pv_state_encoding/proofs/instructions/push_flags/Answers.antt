use Rattle.std.proofs.lemmas.Result.{on_ok_weaker}
use Rattle.pv_state_encoding.proofs.AppendedNumbers.{added_both}
use Rattle.pv_state_encoding.proofs.instructions.push_flags.Goals as goal

pub returns : goal.returns
returns c = on_ok_weaker c.push_bool-2.result (λ last. added_both (added_both c.in_ok-push_finding.ensures c.in_ok-push_bool.ensures) last) c.push_bool-2.ensures
