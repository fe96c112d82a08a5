use Rattle.pv_questions.proofs.SourceFormats.{manifest-source}
use Rattle.pv_questions.proofs.laws.manifests_are_sources.Goals as goal

pub returns : goal.returns
returns c = manifest-source
