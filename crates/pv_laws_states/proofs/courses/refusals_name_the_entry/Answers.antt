use Rattle.pv_laws_states.proofs.CallWalks.{refusals-named}
use Rattle.pv_laws_states.proofs.courses.refusals_name_the_entry.Goals as goal

pub returns : goal.returns
returns c = refusals-named
