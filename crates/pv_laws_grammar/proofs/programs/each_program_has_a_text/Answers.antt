use Rattle.pv_laws_grammar.specs.Written.{written_program}
use Rattle.pv_laws_grammar.proofs.ProgramParsing.{program_of-EncodesProgram}
use Rattle.pv_laws_grammar.proofs.WrittenPrograms.{EncodesProgram-written}
use Rattle.pv_laws_grammar.proofs.programs.each_program_has_a_text.Goals as goal

pub returns : goal.returns
returns c = record {
  encoded = EncodesProgram-written;
  read = λ program h. program_of-EncodesProgram (written_program program) program (EncodesProgram-written program h);
}
