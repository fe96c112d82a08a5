use Rattle.pv_laws_grammar.proofs.LabelNumbers.{label_denotes}
use Rattle.pv_laws_grammar.proofs.sources.labels_denote_their_lines.Goals as goal

pub returns : goal.returns
returns c = label_denotes
