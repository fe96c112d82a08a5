use Rattle.pv_laws_grammar.proofs.InstructionLines.{IsInvalid-instruction_of, instruction_of-IsInvalid}
use Rattle.pv_laws_grammar.proofs.lines.invalid_line_is_reported_by_its_fault.Goals as goal

pub returns : goal.returns
returns c count line what = (IsInvalid-instruction_of count line what, instruction_of-IsInvalid count line what)
