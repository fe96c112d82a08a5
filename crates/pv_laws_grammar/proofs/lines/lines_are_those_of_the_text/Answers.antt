use Rattle.std.proofs.Common.{subst}
use Rattle.pv_model.specs.Grammar.Texts.{HasLines}
use Rattle.pv_laws_grammar.proofs.TextLines.{lines_from_relation, HasLines-lines_of}
use Rattle.pv_laws_grammar.proofs.lines.lines_are_those_of_the_text.Goals as goal

pub returns : goal.returns
returns c bytes lines = ((λ e. subst (HasLines bytes) e (HasLines-lines_of bytes)), lines_from_relation bytes lines)
