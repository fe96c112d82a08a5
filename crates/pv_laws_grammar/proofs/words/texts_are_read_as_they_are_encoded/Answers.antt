use Rattle.pv_laws_grammar.proofs.QuotedTexts.{reads_text, reads_text_or_null}
use Rattle.pv_laws_grammar.proofs.words.texts_are_read_as_they_are_encoded.Goals as goal

pub returns : goal.returns
returns c = record {
  read_or_null = λ bytes rest value. reads_text_or_null.found bytes value rest;
  encoded_or_null = reads_text_or_null.again;
  read = reads_text.found;
  encoded = reads_text.again;
}
