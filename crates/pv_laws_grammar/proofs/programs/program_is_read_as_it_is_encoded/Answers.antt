use Rattle.pv_laws_grammar.proofs.ProgramParsing.{EncodesProgram-program_of, program_of-EncodesProgram}
use Rattle.pv_laws_grammar.proofs.programs.program_is_read_as_it_is_encoded.Goals as goal

pub returns : goal.returns
returns c bytes program = (EncodesProgram-program_of bytes program, program_of-EncodesProgram bytes program)
