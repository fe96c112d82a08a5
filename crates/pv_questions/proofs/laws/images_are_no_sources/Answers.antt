use Rattle.pv_questions.proofs.SourceFormats.{image-no_source}
use Rattle.pv_questions.proofs.laws.images_are_no_sources.Goals as goal

pub returns : goal.returns
returns c = image-no_source
