use Rattle.pv_laws_grammar.proofs.AcceptedSources.{accepted}
use Rattle.pv_laws_grammar.proofs.sources.written_sources_are_accepted.Goals as goal

pub returns : goal.returns
returns c = accepted
