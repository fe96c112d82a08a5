use Rattle.pv_laws_grammar.proofs.AcceptedTexts.{appears-for-itself}
use Rattle.pv_laws_grammar.proofs.AcceptedSources.{accepted, written-ended}
use Rattle.pv_laws_grammar.proofs.sources.accepted_sources_are_their_own.Goals as goal

pub returns : goal.returns
returns c = record {
  accepted = appears-for-itself;
  written = λ source text is. appears-for-itself text (accepted source text is) (written-ended source text is);
}
