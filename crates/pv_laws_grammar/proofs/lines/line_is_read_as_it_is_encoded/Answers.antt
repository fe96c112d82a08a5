use Rattle.pv_laws_grammar.proofs.InstructionLines.{EncodesLine-instruction_of, instruction_of-EncodesLine}
use Rattle.pv_laws_grammar.proofs.lines.line_is_read_as_it_is_encoded.Goals as goal

pub returns : goal.returns
returns c count line i = (EncodesLine-instruction_of count line i, instruction_of-EncodesLine count line i)
