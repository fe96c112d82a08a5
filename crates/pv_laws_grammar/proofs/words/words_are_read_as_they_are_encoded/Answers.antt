use Rattle.pv_laws_grammar.proofs.FlagWords.{reads_flags}
use Rattle.pv_laws_grammar.proofs.SingleWords.{reads_number, reads_register, reads_operand, reads_whence, reads_origin}
use Rattle.pv_laws_grammar.proofs.words.words_are_read_as_they_are_encoded.Goals as goal

pub returns : goal.returns
returns c = record {
  register = λ word r. (reads_register.found word r, reads_register.again r word);
  whence = λ word whence. (reads_whence.found word whence, reads_whence.again whence word);
  origin = λ word origin. (reads_origin.found word origin, reads_origin.again origin word);
  number = λ word n. (reads_number.found word n, reads_number.again n word);
  operand = λ word operand. (reads_operand.found word operand, reads_operand.again operand word);
  flags = λ word flags. (reads_flags.found word flags, reads_flags.again flags word);
}
