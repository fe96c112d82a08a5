use Rattle.pv_laws_grammar.proofs.ShortestForm.{EncodesText-quote}
use Rattle.pv_laws_grammar.proofs.words.shortest_form_encodes_the_text.Goals as goal

pub returns : goal.returns
returns c value bytes fits = EncodesText-quote value bytes fits
