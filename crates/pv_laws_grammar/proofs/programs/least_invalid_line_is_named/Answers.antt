use Rattle.pv_laws_grammar.proofs.ProgramParsing.{no_memory_program, IsFirstInvalid-read_program, read_program-IsFirstInvalid}
use Rattle.pv_laws_grammar.proofs.programs.least_invalid_line_is_named.Goals as goal

pub returns : goal.returns
returns c = record {
  line = λ bytes n what. (IsFirstInvalid-read_program bytes n what, read_program-IsFirstInvalid bytes n what);
  total = no_memory_program;
}
