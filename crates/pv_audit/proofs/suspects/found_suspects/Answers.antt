use Rattle.std.proofs.Common.{ap, ◌∙◌}
use Rattle.pv_audit.specs.Findings.{are_live}
use Rattle.pv_audit.proofs.LiveProcesses.{suspects-live}
use Rattle.pv_audit.proofs.suspects.found_suspects.Goals as goal

pub note_names-requires : goal.note_names-requires
note_names-requires c =
    ap (are_live c.args.parts.now) (c.as_mut_slice.ensures.value ∙ c.live_suspects-suspects.ensures) ∙ suspects-live c.args.parts.now c.invariant.ensures.processes.ascending
